-- The led call lines that a table of numbers holds, four numbers each: the catalogue, the letter's byte and two numbers; and what one line more does to the
-- hall's desks and answers. Rests on hall_led's Led. Assumes nothing.
use Rattle.std.specs.Prelude.{ℕ, zero, suc, ◌+◌, ◌*◌, ◌-◌, ◌<◌, ◌≤◌, ◌≡◌, length, get_or}
use Rattle.std.proofs.Common.{arith, ◌∙◌, length-append}
use Rattle.std.proofs.Math.Path.{refl, sym, ap}
use mathlib.Core.List.{List, [], ◌∷◌, ◌++◌, append_assoc, append-nil}
use Rattle.model.specs.Sale.{Sale}
use Rattle.model.specs.Report.{digits, answer_row}
use Rattle.model.specs.Hall.{Led, led_turn, led_to, hall_after, hall_answers}
use Rattle.call_list.specs.Asked.{request_of}
use Rattle.hall_led.specs.Led.{led_by, led_row}

abbrev pub led_at : List ℕ → List ℕ → ℕ → Led
led_at calls operands i = led_by (get_or calls (4 * i) 0) (request_of operands (get_or calls (4 * i + 1) 0) (get_or calls (4 * i + 2) 0) (get_or calls (4 * i + 3) 0))

-- the first n of them
unfoldable pub leds_to : List ℕ → List ℕ → ℕ → List Led
leds_to calls operands zero = []
leds_to calls operands (suc n) = leds_to calls operands n ++ (led_at calls operands n ∷ [])

module _ (limit : ℕ) where
  pub after_more : (ds : List Sale) (ls : List Led) (l : Led) → hall_after limit ds (ls ++ (l ∷ [])) ≡ led_to limit (hall_after limit ds ls) l
  unfolding hall_after
  after_more ds [] l = refl
  after_more ds (x ∷ ls) l = after_more (led_to limit ds x) ls l

  row_is : (ds : List Sale) (l : Led) → (digits l.desk ++ (44 ∷ answer_row (led_turn limit ds l).answer)) ++ [] ≡ led_row limit ds l
  row_is ds l =
      append-nil (digits l.desk ++ (44 ∷ answer_row (led_turn limit ds l).answer))
      ∙ sym (append_assoc (digits l.desk) (44 ∷ []) (answer_row (led_turn limit ds l).answer))

  pub answers-more : (ds : List Sale) (ls : List Led) (l : Led) → hall_answers limit ds (ls ++ (l ∷ [])) ≡ hall_answers limit ds ls ++ led_row limit (hall_after limit ds ls) l
  unfolding hall_after hall_answers
  answers-more ds [] l = row_is ds l
  answers-more ds (x ∷ ls) l =
      let first = digits x.desk ++ (44 ∷ answer_row (led_turn limit ds x).answer) in
      let rest = hall_answers limit (led_to limit ds x) ls in
      let last = led_row limit (hall_after limit (led_to limit ds x) ls) l in
      ap (λ (z : List ℕ). first ++ z) (answers-more (led_to limit ds x) ls l) ∙ sym (append_assoc first rest last)

  module _ (ds : List Sale) (calls operands : List ℕ) where
    pub after-suc : (n : ℕ) → hall_after limit ds (leds_to calls operands (suc n)) ≡ led_to limit (hall_after limit ds (leds_to calls operands n)) (led_at calls operands n)
    unfolding leds_to
    after-suc n = after_more ds (leds_to calls operands n) (led_at calls operands n)

    pub after_next : (n : ℕ) → hall_after limit ds (leds_to calls operands (n + 1)) ≡ led_to limit (hall_after limit ds (leds_to calls operands n)) (led_at calls operands n)
    after_next n = let e : n + 1 ≡ suc n = omega arith in ap (λ (k : ℕ). hall_after limit ds (leds_to calls operands k)) e ∙ after-suc n

    answers-suc : (n : ℕ) → hall_answers limit ds (leds_to calls operands (suc n)) ≡ hall_answers limit ds (leds_to calls operands n) ++ led_row limit (hall_after limit ds (leds_to calls operands n)) (led_at calls operands n)
    unfolding leds_to
    answers-suc n = answers-more ds (leds_to calls operands n) (led_at calls operands n)

    pub answers_next : (n : ℕ) → hall_answers limit ds (leds_to calls operands (n + 1)) ≡ hall_answers limit ds (leds_to calls operands n) ++ led_row limit (hall_after limit ds (leds_to calls operands n)) (led_at calls operands n)
    answers_next n = let e : n + 1 ≡ suc n = omega arith in ap (λ (k : ℕ). hall_answers limit ds (leds_to calls operands k)) e ∙ answers-suc n

    -- fewer lines have no longer answers
    pub answers-le : (n more : ℕ) → length (hall_answers limit ds (leds_to calls operands n)) ≤ length (hall_answers limit ds (leds_to calls operands (n + more)))
    answers-le n zero = let e : n + 0 ≡ n = omega arith in omega (arith, ap (λ (k : ℕ). length (hall_answers limit ds (leds_to calls operands k))) e)
    answers-le n (suc more) =
        let e : n + suc more ≡ n + more + 1 = omega arith in
        omega (
          arith,
          answers-le n more,
          ap (λ (k : ℕ). length (hall_answers limit ds (leds_to calls operands k))) e,
          ap length (answers_next (n + more)),
          length-append (hall_answers limit ds (leds_to calls operands (n + more))) (led_row limit (hall_after limit ds (leds_to calls operands (n + more))) (led_at calls operands (n + more))),
        )
