-- Each field of a list of lots' records as a table of its own, so that model's Memory tells of records too. Rests on Over and on model's Memory.
use Rattle.std.specs.Prelude.{ℕ, suc, ◌≤◌, ◌≡◌, refl, Bool, true, false, cond, List, map, ltb, length, get_or}
use Rattle.std.proofs.Common.{arith, sym, ap, ◌∙◌, ltb-true}
use Rattle.std.proofs.lemmas.List.{length-map}
use Rattle.model.specs.Memory.{Column}
use Rattle.records.specs.declared.Lot.{Lot}
use Rattle.records.specs.Over.{over, length_over, over-entry, map-over}

abbrev pub blank : Lot
blank = record { bales = 0; session = 0; above = 0; kept = 0 }

abbrev pub bales_of : List Lot → List ℕ
bales_of lots = map (λ (l : Lot). l.bales) lots

abbrev pub sessions_of : List Lot → List ℕ
sessions_of lots = map (λ (l : Lot). l.session) lots

abbrev pub aboves_of : List Lot → List ℕ
aboves_of lots = map (λ (l : Lot). l.above) lots

abbrev pub kept_of : List Lot → List ℕ
kept_of lots = map (λ (l : Lot). l.kept) lots

-- a field's table, once the first n records are written
pub over-field : (f : Lot → ℕ) (n i : ℕ) (new old : List Lot) → n ≤ length new → get_or (map f (over n new old)) i 0 ≡ cond (ltb i n) (get_or (map f new) i 0) (get_or (map f old) i 0)
over-field f n i new old l = ap (λ (t : List ℕ). get_or t i 0) (map-over f n new old) ∙ over-entry 0 n i (map f new) (map f old) (omega (arith, l, length-map new f))

-- where a field's table of the new records has its n values, whatever it held before, the same field of the lent records has them once the first n are written
pub over-column : (f : Lot → ℕ) (n : ℕ) (value : ℕ → ℕ) (before : List ℕ) (new old : List Lot) → n ≤ length before → n ≤ length old
    → Column n value before (map f new) → Column n value (map f old) (map f (over n new old))
over-column f n value before new old l m c = record {
  as_long = length-map (over n new old) f ∙ length_over n new old enough m ∙ sym (length-map old f);
  entries = λ i _. over-field f n i new old enough ∙ go i (ltb i n) refl;
}
  where
    enough : n ≤ length new
    enough = omega (arith, length-map new f, c.as_long, l)

    go : (i : ℕ) (b : Bool) → ltb i n ≡ b → cond b (get_or (map f new) i 0) (get_or (map f old) i 0) ≡ cond b (value (suc i)) (get_or (map f old) i 0)
    go i true q = c.entries i (omega (arith, ltb-true i n q, l)) ∙ ap (λ (b : Bool). cond b (value (suc i)) (get_or before i 0)) q
    go i false q = refl
