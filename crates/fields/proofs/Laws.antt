-- Laws of text written into a buffer: nothing, one byte, one text after another; and of fields written one by one. Rests on text's laws
-- of `written`.
use Prim.Native.Nat.{ℕ, ◌+◌, ◌≤◌, ◌<◌}
use mathlib.Core.Path.{◌≡◌, refl, ap, sym, ◌∙◌, subst}
use mathlib.Core.List.{List, [], ◌∷◌, ◌++◌, append_assoc, append-nil}
use native.Mathlib.Omega.{arith}
use native.Mathlib.Numerals.{add-one}
use native.Mathlib.Nat.{add-zero}
use lib.ListN.{length, take, drop, set, get_or, length-append, take-append-drop}
use lib.Seq.{take-suc, take_all}
use Rattle.model.specs.Report.{digits, tail}
use Rattle.text.specs.Output.{written}
use Rattle.text.proofs.Digits.{written_one, written-append, length-written}
use Rattle.model.specs.CatalogueText.{numbers}
use Rattle.fields.specs.Wrote.{Wrote, Remains}

pub wrote_none : (l : List ℕ) (at : ℕ) → Wrote l l at [] at
unfolding written
wrote_none l at = record {
  ends = omega arith;
  is = sym (ap (λ (t : List ℕ). t ++ drop (at + 0) l) (append-nil (take at l)) ∙ ap (λ (k : ℕ). take at l ++ drop k l) (add-zero at) ∙ take-append-drop at l);
}

pub wrote-length : {l l' : List ℕ} {at : ℕ} {d : List ℕ} {r : ℕ} → Wrote l l' at d r → at + length d ≤ length l → length l' ≡ length l
wrote-length {l} {l'} {at} {d} w h = ap length w.is ∙ length-written l d at h

-- one text after another
pub wrote-append : {l m l' : List ℕ} {at : ℕ} {d e : List ℕ} {p r : ℕ} → at + length d ≤ length l → Wrote l m at d p → Wrote m l' p e r → Wrote l l' at (d ++ e) r
wrote-append {l} {m} {l'} {at} {d} {e} {p} {r} h v w = record {
  ends = omega (arith, v.ends, w.ends, length-append d e);
  is = w.is ∙ ap (λ (t : List ℕ). written t p e) v.is ∙ ap (λ (k : ℕ). written (written l at d) k e) v.ends ∙ written-append l at d e h;
}

pub wrote_one : (l : List ℕ) (at b : ℕ) → at < length l → Wrote l (set l at b) at (b ∷ []) (at + 1)
wrote_one l at b h = record { ends = omega arith; is = written_one l at b h }

-- one byte, and a text after it
pub wrote-cons : {l l' : List ℕ} {at b : ℕ} {d : List ℕ} {r : ℕ} → at < length l → Wrote (set l at b) l' (at + 1) d r → Wrote l l' at (b ∷ d) r
wrote-cons {l} {at = at} {b = b} h w = wrote-append (omega arith) (wrote_one l at b h) w

-- a text, and one byte after it
pub wrote-snoc : {l m : List ℕ} {at : ℕ} {d : List ℕ} {p : ℕ} (b : ℕ) → at + length d < length l → Wrote l m at d p → Wrote l (set m p b) at (d ++ (b ∷ [])) (p + 1)
wrote-snoc {l} {m} {at} {d} {p} b h w = wrote-append (omega arith) w (wrote_one m p b (omega (arith, w.ends, wrote-length w (omega arith))))

-- ---- fields one by one

-- numbers, each behind a comma
unfoldable pub commas : List ℕ → List ℕ
commas [] = []
commas (x ∷ xs) = 44 ∷ (digits x ++ commas xs)

commas-append : (xs ys : List ℕ) → commas (xs ++ ys) ≡ commas xs ++ commas ys
unfolding commas
commas-append [] ys = refl
commas-append (x ∷ xs) ys = ap (λ (t : List ℕ). 44 ∷ t) (ap (λ (t : List ℕ). digits x ++ t) (commas-append xs ys) ∙ sym (append_assoc (digits x) (commas xs) (commas ys)))

commas-one : (x : ℕ) → commas (x ∷ []) ≡ 44 ∷ digits x
unfolding commas
commas-one x = ap (λ (t : List ℕ). 44 ∷ t) (append-nil (digits x))

commas-more : (xs : List ℕ) (i : ℕ) → i < length xs → commas (take (i + 1) xs) ≡ commas (take i xs) ++ (44 ∷ digits (get_or xs i 0))
commas-more xs i h = ap (λ (k : ℕ). commas (take k xs)) (add-one i) ∙ ap commas (take-suc xs i 0 h) ∙ commas-append (take i xs) (get_or xs i 0 ∷ []) ∙ ap (λ (t : List ℕ). commas (take i xs) ++ t) (commas-one (get_or xs i 0))

commas-tail : (xs : List ℕ) → tail (numbers xs) ≡ commas xs ++ (10 ∷ [])
unfolding commas tail
commas-tail [] = refl
commas-tail (x ∷ xs) = ap (λ (t : List ℕ). 44 ∷ t) (ap (λ (t : List ℕ). digits x ++ t) (commas-tail xs) ∙ sym (append_assoc (digits x) (commas xs) (10 ∷ [])))

tail-length : (xs : List ℕ) → length (tail (numbers xs)) ≡ length (commas xs) + 1
tail-length xs = ap length (commas-tail xs) ∙ length-append (commas xs) (10 ∷ [])

pub fields-none : (l : List ℕ) (at : ℕ) → Wrote l l at (commas []) at
unfolding commas
fields-none l at = wrote_none l at

-- there is room for the next field
pub fields-room : (xs : List ℕ) (i : ℕ) → i < length xs → length (commas (take i xs)) + 1 + length (digits (get_or xs i 0)) < length (tail (numbers xs))
fields-room xs i h = omega (
  arith,
  tail-length xs,
  ap length (ap commas (sym (take-append-drop (i + 1) xs)) ∙ commas-append (take (i + 1) xs) (drop (i + 1) xs)),
  length-append (commas (take (i + 1) xs)) (commas (drop (i + 1) xs)),
  ap length (commas-more xs i h),
  length-append (commas (take i xs)) (44 ∷ digits (get_or xs i 0)),
)

pub fields-more : {l m l' : List ℕ} {at p r : ℕ} (xs : List ℕ) (i : ℕ) → i < length xs → at + length (tail (numbers xs)) ≤ length l →
    Wrote l m at (commas (take i xs)) p → Wrote m l' p (44 ∷ digits (get_or xs i 0)) r → Wrote l l' at (commas (take (i + 1) xs)) r
fields-more xs i h f v w = rw (commas-more xs i h) (wrote-append (omega (arith, fields-room xs i h)) v w)

-- all fields stand: room for the line feed, and the whole
pub fields-last : {l m : List ℕ} {at p : ℕ} (xs : List ℕ) (i : ℕ) → length xs ≤ i → at + length (tail (numbers xs)) ≤ length l →
    Wrote l m at (commas (take i xs)) p → p < length l
fields-last xs i h f w = omega (arith, w.ends, tail-length xs, ap (λ (t : List ℕ). length (commas t)) (take_all i xs h))

pub fields-end : {l m : List ℕ} {at p : ℕ} (xs : List ℕ) (i : ℕ) → length xs ≤ i → at + length (tail (numbers xs)) ≤ length l →
    Wrote l m at (commas (take i xs)) p → Wrote l (set m p 10) at (tail (numbers xs)) (p + 1)
fields-end {l} {m} {at} {p} xs i h f w =
    let all : Wrote l m at (commas xs) p = subst (λ (t : List ℕ). Wrote l m at (commas t) p) (take_all i xs h) w in
    rw (commas-tail xs) (wrote-snoc 10 (omega (arith, tail-length xs)) all)

-- ---- a text written part by part
pub remains-all : (l : List ℕ) (at : ℕ) (text : List ℕ) → Remains l at text l at text
remains-all l at text = record { len = refl; size = refl; then = λ l' r w. w }

module _ {l : List ℕ} {at : ℕ} {text m : List ℕ} {p : ℕ} (room : at + length text ≤ length l) where
  pub remains-room : (d rest : List ℕ) → Remains l at text m p (d ++ rest) → p + length d ≤ length m
  remains-room d rest t = omega (arith, t.len, t.size, length-append d rest)

  pub remains-more : {m' : List ℕ} {q : ℕ} (d rest : List ℕ) → Remains l at text m p (d ++ rest) → Wrote m m' p d q → Remains l at text m' q rest
  remains-more d rest t w =
      let fit = remains-room d rest t in
      record {
        len = wrote-length w fit ∙ t.len;
        size = omega (arith, w.ends, t.size, length-append d rest);
        then = λ l' r v. t.then l' r (wrote-append fit w v);
      }

pub remains-none : {l : List ℕ} {at : ℕ} {text m : List ℕ} {p : ℕ} → Remains l at text m p [] → Wrote l m at text p
remains-none {m = m} {p = p} t = t.then m p (wrote_none m p)
