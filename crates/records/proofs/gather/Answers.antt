use Rattle.std.proofs.Common.{◌≡◌, refl, sym, ap, ◌∙◌, List, map, ℕ, ◌-◌, ◌<◌, ◌≤◌, ne_of_lt, arith, length, get_or, set, length-set, replicate, get_or-set_same, get_or-set_other, ext_get_or, below_none, below_more}
use Rattle.std.proofs.Math.ListN.{get_or-map}
use Rattle.std.proofs.lemmas.List.{length-map, length-replicate}
use Rattle.records.specs.declared.Lot.{Lot}
use Rattle.records.specs.Fields.{blank, bales_of, sessions_of, aboves_of, kept_of}
use Rattle.records.proofs.gather.Invariants.{Made}
use Rattle.records.proofs.gather.Goals as goal

-- once all records are made, each field of theirs is its table
tables : (weights blocks aboves fixed : List ℕ) (lots : List Lot) → length weights ≡ 1024 → length blocks ≡ 1024 → length aboves ≡ 1024 → length fixed ≡ 1024 → length lots ≡ 1024
    → ((k : ℕ) → k < 1024 → Made weights blocks aboves fixed lots k) → (bales_of lots ≡ weights) × (sessions_of lots ≡ blocks) × (aboves_of lots ≡ aboves) × (kept_of lots ≡ fixed)
tables weights blocks aboves fixed lots w b a x l made = (
  field (λ (l : Lot). l.bales) weights w refl (λ k h. ap (λ (l : Lot). l.bales) (made k h)),
  field (λ (l : Lot). l.session) blocks b refl (λ k h. ap (λ (l : Lot). l.session) (made k h)),
  field (λ (l : Lot). l.above) aboves a refl (λ k h. ap (λ (l : Lot). l.above) (made k h)),
  field (λ (l : Lot). l.kept) fixed x refl (λ k h. ap (λ (l : Lot). l.kept) (made k h)),
)
  where
    field : (f : Lot → ℕ) (t : List ℕ) → length t ≡ 1024 → f blank ≡ 0 → ((k : ℕ) → k < 1024 → f (get_or lots k blank) ≡ get_or t k 0) → map f lots ≡ t
    field f t e z same =
        ext_get_or 0 (map f lots) t (length-map lots f ∙ l ∙ sym e)
        (λ k h. ap (get_or (map f lots) k) (sym z) ∙ get_or-map f lots k blank ∙ same k (omega (arith, h, length-map lots f, l)))

pub loop-i-init : goal.loop-i-init
loop-i-init c = (omega arith, length-replicate 1024 blank, below_none (Made c.args.weights c.args.blocks c.args.aboves c.args.fixed (replicate 1024 blank)))

pub loop-i-preserved : goal.loop-i-preserved
loop-i-preserved c =
    let lots = c.loop-i.lots in
    let i = c.loop-i.i in
    let lot : Lot = record { bales = get_or c.args.weights i 0; session = get_or c.args.blocks i 0; above = get_or c.args.aboves i 0; kept = get_or c.args.fixed i 0 } in (
      omega (arith, c.loop-i-test.true),
      length-set lots i lot ∙ c.loop-i.invariant.1,
      below_more (Made c.args.weights c.args.blocks c.args.aboves c.args.fixed (set lots i lot)) i
          (λ k h. get_or-set_other lots i k lot blank (ne_of_lt h) ∙ c.loop-i.invariant.2 k h)
          (get_or-set_same lots i lot blank (omega (arith, c.loop-i-test.true, c.loop-i.invariant.1))),
    )

pub returns : goal.returns
returns c =
    tables c.args.weights c.args.blocks c.args.aboves c.args.fixed c.loop-i.lots (omega (arith, c.well_formed)) (omega (arith, c.well_formed)) (omega (arith, c.well_formed)) (omega (arith, c.well_formed)) c.loop-i.invariant.1
    (λ k h. c.loop-i.invariant.2 k (omega (arith, h, c.loop-i-test.false)))
