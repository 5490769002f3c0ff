-- A hall's file goes on from the lines of a catalogue to the next one, or to 24 and its call lines. Rests on Through. Assumes nothing.
use Prim.Native.Nat.{ℕ, zero, suc, ◌+◌, ◌-◌}
use native.Mathlib.Omega.{arith}
use Rattle.std.specs.Prelude.{◌≡◌, Bool, cond}
use Rattle.std.proofs.Math.Path.{refl}
use Rattle.std.proofs.Common.{ap, sym, ◌∙◌}
use Rattle.std.proofs.Math.Bool.{true, false}
use mathlib.Core.List.{List, [], ◌∷◌}
use Rattle.model.specs.Catalogue.{Limits}
use Rattle.model.specs.Grammar.{Book, Reading, unread, reading, stopped, whole, line}
use Rattle.model.specs.HallText.{HallBook, HallReading, hall_unread, in_catalogue, in_calls, hall_stopped, limits_left, with_book, taken, hall_line, hall_ending, hall_lines}
use Rattle.model.specs.Through.{Stage, ended, refused, stage_of, through}

unfoldable pub on_hall : HallBook → Stage → HallReading
on_hall K (ended k n ls) = hall_lines n (with_book (n - 1) K k) ls
on_hall K (refused q m) = hall_stopped q m

hall-stays : (n q m : ℕ) (ls : List (List ℕ)) → hall_lines n (hall_stopped q m) ls ≡ hall_stopped q m
unfolding hall_lines hall_line hall_ending
hall-stays n q m [] = refl
hall-stays n q m (l ∷ []) = refl
hall-stays n q m (l ∷ (k ∷ ls)) = hall-stays (suc n) q m (k ∷ ls)

module _ (K : HallBook) where
  -- n is the number of the next line, so that the one before it is n - 1
  by_last : (n : ℕ) (l : List ℕ) (r : Reading) → hall_lines n (taken (n - 1) K r) (l ∷ []) ≡ on_hall K (stage_of n (l ∷ []) (refused 2 n) r)
  unfolding on_hall stage_of taken hall_lines hall_ending
  by_last n l unread = refl
  by_last n l (stopped q m) = refl
  by_last n l (reading k) = go (whole k)
    where
      go : (t : Bool) → hall_ending n (cond t (with_book (n - 1) K k) (in_catalogue K (reading k))) l ≡ on_hall K (cond t (ended k n (l ∷ [])) (refused 2 n))
      go true = refl
      go false = refl

  by_next : (n : ℕ) (l m : List ℕ) (ls : List (List ℕ)) (r : Reading) (st : Stage) → hall_lines (suc n) (taken n K (line (limits_left K.books) n r l)) (m ∷ ls) ≡ on_hall K st
      → hall_lines n (taken (n - 1) K r) (l ∷ (m ∷ ls)) ≡ on_hall K (stage_of n (l ∷ (m ∷ ls)) st r)
  unfolding on_hall stage_of taken hall_lines hall_line
  by_next n l m ls unread st e = e
  by_next n l m ls (stopped q i) st e = hall-stays (suc n) q i (m ∷ ls)
  by_next n l m ls (reading k) st e = go (whole k)
    where
      go : (t : Bool) → hall_lines (suc n) (hall_line n (cond t (with_book (n - 1) K k) (in_catalogue K (reading k))) l) (m ∷ ls) ≡ on_hall K (cond t (ended k n (l ∷ (m ∷ ls))) st)
      go true = refl
      go false = e

  pub hall-through : (n : ℕ) (r : Reading) (l : List ℕ) (ls : List (List ℕ)) → hall_lines n (taken (n - 1) K r) (l ∷ ls) ≡ on_hall K (through (limits_left K.books) n r (l ∷ ls))
  unfolding through
  hall-through n r l [] = by_last n l r
  hall-through n r l (m ∷ ls) =
      let e : suc n - 1 ≡ n = omega arith in
      by_next n l m ls r (through (limits_left K.books) (suc n) (line (limits_left K.books) n r l) (m ∷ ls))
      (ap (λ (i : ℕ). hall_lines (suc n) (taken i K (line (limits_left K.books) n r l)) (m ∷ ls)) (sym e) ∙ hall-through (suc n) (line (limits_left K.books) n r l) m ls)
