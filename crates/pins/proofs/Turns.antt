-- A contraction and its undo in one net's list: the list stays in step with the stack. Rests on Stretch.
use Rattle.std.specs.Prelude.{ℕ, zero, suc, ◌+◌, ◌≤◌, ◌<◌, max, ◌≡◌, refl, Bool, true, false, List, ◌∷◌, length, get_or}
use Rattle.std.proofs.Common.{add-zero, arith, sym, ap, ◌∙◌, inr}
use Rattle.std.proofs.Math.Decide.{ℕ_discrete}
use Rattle.laws.specs.Choice.{one}
use Rattle.laws.specs.Occurrence.{at, same, occ, same-yes, same-no}
use Rattle.model.specs.Measure.{Contraction, above}
use Rattle.guarantees.specs.Climbs.{Sound}
use Rattle.pins.specs.Link.{Relinked, Unlinked}
use Rattle.pins.specs.Stack.{row, past, present, present-on, present-le, present-gone, present-into, present-other, past-both, past-new, past_off}
use Rattle.pins.specs.Stretch.{Stretch}

module _ (own : ℕ → Bool) (cs : List Contraction) (c : Contraction) (so : Sound (c ∷ cs)) (l : List ℕ) (f n N : ℕ) where
  module _ (hv : row own cs c.gone ≡ true) where
    v-one : present own cs c.gone ≡ 1
    v-one = present-on own cs c.gone so.0.gone-on ∙ ap one hv

    u-one : {b : Bool} → row own cs c.into ≡ b → present own cs c.into ≡ one b
    u-one q = present-on own cs c.into so.0.into-on ∙ ap one q

    -- what `relink` says, in pins
    contract-pins : (x : ℕ) → present own (c ∷ cs) x + same c.gone x ≡ max (present own cs x) (same c.into x)
    contract-pins x = go (ℕ_discrete x c.into) (ℕ_discrete x c.gone)
      where
        go : Dec (x ≡ c.into) → Dec (x ≡ c.gone) → present own (c ∷ cs) x + same c.gone x ≡ max (present own cs x) (same c.into x)
        go (yes q) d = rw q (omega (arith, present-into own cs c so.0, v-one, present-le own cs c.into, same-yes c.into c.into refl, same-no c.gone c.into (λ z. so.0.two (sym z))))
        go (no m) (yes q) = rw q (omega (arith, present-gone own cs c so.0, v-one, same-yes c.gone c.gone refl, same-no c.into c.gone so.0.two))
        go (no m) (no k) = omega (arith, present-other own cs c so.0 x m k, same-no c.into x (λ z. m (sym z)), same-no c.gone x (λ z. k (sym z)))

    -- ---- v is contracted into u
    module _ (l' : List ℕ) (r : ℕ) (s : Stretch own cs l f n N) (k : Relinked l l' f n r c.into c.gone) where
      pub stretch-contract : Stretch own (c ∷ cs) l' f r N
      stretch-contract = go (row own cs c.into) refl
        where
          pins' : (x : ℕ) → occ l' f r x ≡ present own (c ∷ cs) x
          pins' x = omega (arith, k.counts x, s.pins x, contract-pins x)

          go : (b : Bool) → row own cs c.into ≡ b → Stretch own (c ∷ cs) l' f r N
          go true hu =
              let q : (r + 1 ≡ n) × (at l' f r ≡ c.gone) = k.removed (omega (arith, s.pins c.into, u-one hu)) in record {
                pins = pins';
                rising = k.rising s.rising;
                whole = rw (past-both own cs c hu hv) (omega (arith, s.whole, q.0));
                after = rw (past-both own cs c hu hv) (places q);
              }
            where
              places : (r + 1 ≡ n) × (at l' f r ≡ c.gone) → (i : ℕ) → i < length (c.gone ∷ past own cs) → at l' f (r + i) ≡ get_or (c.gone ∷ past own cs) i 0
              places q zero h = rw add-zero q.1
              places q (suc i) h =
                  let e : r + suc i ≡ n + i = omega (arith, q.0) in
                  rw e (k.outside (f + (n + i)) (inr (omega arith)) ∙ s.after i (omega arith))
          go false hu =
              let q : r ≡ n = k.replaced (omega (arith, s.pins c.into, u-one hu)) in record {
                pins = pins';
                rising = k.rising s.rising;
                whole = rw (past-new own cs c hu) (omega (arith, s.whole, q));
                after = rw (past-new own cs c hu, q) (λ i h. k.outside (f + (n + i)) (inr (omega arith)) ∙ s.after i h);
              }

    -- ---- v is split from u again
    module _ (l' : List ℕ) (r : ℕ) (s : Stretch own (c ∷ cs) l f n N) (k : Unlinked l l' f n N r c.into c.gone) where
      -- v is none of the pins
      off : occ l f n c.gone ≡ 0
      off = s.pins c.gone ∙ present-gone own cs c so.0

      -- u was a pin too: v stands just past the stretch
      pub split-both : row own cs c.into ≡ true → (r ≡ n + 1) × Stretch own cs l' f r N
      split-both hu = (
        q.0,
        record {
          pins = λ x. omega (arith, q.1 x, s.pins x, contract-pins x, both x);
          rising = k.rising s.rising off;
          whole = omega (arith, full, q.0);
          after = λ i h. let e : r + i ≡ n + suc i = omega (arith, q.0) in rw e (k.outside (f + (n + suc i)) (inr (omega (arith, q.0))) ∙ places (suc i) (omega arith));
        },
      )
        where
          full : n + suc (length (past own cs)) ≡ N
          full = rw (past-both own cs c hu hv) at s.whole

          places : (i : ℕ) → i < length (c.gone ∷ past own cs) → at l f (n + i) ≡ get_or (c.gone ∷ past own cs) i 0
          places = rw (past-both own cs c hu hv) at s.after

          here : at l f n ≡ c.gone
          here = rw add-zero at (places 0 (omega arith))

          q : (r ≡ n + 1) × ((x : ℕ) → occ l' f r x ≡ occ l f n x + same c.gone x)
          q = k.restored (omega (arith, full)) here

          both : (x : ℕ) → same c.into x ≤ present own cs x
          both x = go (ℕ_discrete c.into x)
            where
              go : Dec (c.into ≡ x) → same c.into x ≤ present own cs x
              go (yes z) = rw (← z) (omega (arith, u-one hu, same-yes c.into c.into refl))
              go (no z) = omega (arith, same-no c.into x z)

      -- u was none: v's place has u
      pub split-new : row own cs c.into ≡ false → (r ≡ n) × Stretch own cs l' f r N
      split-new hu = (
        q.0,
        rw q.0 (record {
          pins = λ x. omega (arith, q.1 x, s.pins x, contract-pins x, alone x);
          rising = rw q.0 at (k.rising s.rising off);
          whole = full;
          after = λ i h. k.outside (f + (n + i)) (inr (omega (arith, q.0))) ∙ places i h;
        }),
      )
        where
          full : n + length (past own cs) ≡ N
          full = rw (past-new own cs c hu) at s.whole

          places : (i : ℕ) → i < length (past own cs) → at l f (n + i) ≡ get_or (past own cs) i 0
          places = rw (past-new own cs c hu) at s.after

          not : (n < N) × (at l f n ≡ c.gone) → ⊥
          not h =
              let z : 0 < length (past own cs) = omega (arith, full, h.0) in
              let e : at l f n ≡ get_or (past own cs) 0 0 = rw add-zero at (places 0 z) in
              past_off own cs so.1 0 z (ap (above cs) (sym e ∙ h.1) ∙ so.0.gone-on)

          q : (r ≡ n) × ((x : ℕ) → occ l' f n x + same c.into x ≡ occ l f n x + same c.gone x)
          q = k.replaced not

          alone : (x : ℕ) → max (present own cs x) (same c.into x) ≡ present own cs x + same c.into x
          alone x = go (ℕ_discrete c.into x)
            where
              go : Dec (c.into ≡ x) → max (present own cs x) (same c.into x) ≡ present own cs x + same c.into x
              go (yes z) = rw (← z) (omega (arith, u-one hu))
              go (no z) = omega (arith, same-no c.into x z)

      pub stretch-split : Stretch own cs l' f r N
      stretch-split = go (row own cs c.into) refl
        where
          go : (b : Bool) → row own cs c.into ≡ b → Stretch own cs l' f r N
          go true hu = (split-both hu).1
          go false hu = (split-new hu).1
