-- One net's list against the contraction stack; a net that a contraction leaves alone. What a contraction and its undo do to one is in proofs/Turns. Rests on Link and Stack.
use Rattle.std.specs.Prelude.{ℕ, ◌+◌, ◌-◌, ◌<◌, ◌≡◌, Bool, true, false, List, ◌∷◌, length, get_or}
use Rattle.std.proofs.Common.{arith, sym, ap, ◌∙◌}
use Rattle.std.proofs.Math.Decide.{ℕ_discrete}
use Rattle.laws.specs.Choice.{one}
use Rattle.laws.specs.Occurrence.{at, occ, In, Distinct, occ-in, occ-ext, occ-distinct}
use Rattle.model.specs.Measure.{Contraction, above}
use Rattle.guarantees.specs.Climbs.{Sound}
use Rattle.laws.specs.Rising.{Rising}
use Rattle.pins.specs.Stack.{row, past, present, present-on, present-le, present-gone, present-into, present-other, past_skip}

-- the stretch of n places from f on has each pin on the board once and nothing else, the lowest first; the places after it, up to N, are what was
-- taken out
pub record Stretch (own : ℕ → Bool) (cs : List Contraction) (l : List ℕ) (f n N : ℕ) : Type 0 where
  pub pins : (x : ℕ) → occ l f n x ≡ present own cs x
  pub rising : Rising l f n
  pub whole : n + length (past own cs) ≡ N
  pub after : (i : ℕ) → i < length (past own cs) → at l f (n + i) ≡ get_or (past own cs) i 0

pub stretch-distinct : (own : ℕ → Bool) (cs : List Contraction) (l : List ℕ) (f n N : ℕ) → Stretch own cs l f n N → Distinct l f n
stretch-distinct own cs l f n N s = occ-distinct l f n (λ x. omega (arith, s.pins x, present-le own cs x))

pub stretch-in : (own : ℕ → Bool) (cs : List Contraction) (l : List ℕ) (f n N : ℕ) → Stretch own cs l f n N → (x : ℕ) → above cs x ≡ 0 → row own cs x ≡ true → In l f n x
stretch-in own cs l f n N s x on r = occ-in l f n x (omega (arith, s.pins x, present-on own cs x on, ap one r))

-- only the N places count
pub stretch-ext : (own : ℕ → Bool) (cs : List Contraction) (l l' : List ℕ) (f n N : ℕ) → ((i : ℕ) → i < N → at l' f i ≡ at l f i) → Stretch own cs l f n N → Stretch own cs l' f n N
stretch-ext own cs l l' f n N h s = record {
  pins = λ x. occ-ext l l' f n x (λ i k. h i (omega (arith, s.whole))) ∙ s.pins x;
  rising = λ i j ij jn. omega (arith, h i (omega (arith, s.whole)), h j (omega (arith, s.whole)), s.rising i j ij jn);
  whole = s.whole;
  after = λ i k. h (n + i) (omega (arith, s.whole)) ∙ s.after i k;
}

module _ (own : ℕ → Bool) (cs : List Contraction) (c : Contraction) (so : Sound (c ∷ cs)) (l : List ℕ) (f n N : ℕ) where
  -- ---- a net without v
  pub stretch-skip : row own cs c.gone ≡ false → (x : ℕ) → present own (c ∷ cs) x ≡ present own cs x
  stretch-skip z x = go (ℕ_discrete x c.into) (ℕ_discrete x c.gone)
    where
      none : present own cs c.gone ≡ 0
      none = present-on own cs c.gone so.0.gone-on ∙ ap one z

      go : Dec (x ≡ c.into) → Dec (x ≡ c.gone) → present own (c ∷ cs) x ≡ present own cs x
      go (yes q) d = rw q (omega (arith, present-into own cs c so.0, none))
      go (no m) (yes q) = rw q (present-gone own cs c so.0 ∙ sym none)
      go (no m) (no k) = present-other own cs c so.0 x m k

  pub skip-on : row own cs c.gone ≡ false → Stretch own cs l f n N → Stretch own (c ∷ cs) l f n N
  skip-on z s = record {
    pins = λ x. s.pins x ∙ sym (stretch-skip z x);
    rising = s.rising;
    whole = rw (past_skip own cs c z) s.whole;
    after = rw (past_skip own cs c z) s.after;
  }

  pub skip-back : row own cs c.gone ≡ false → Stretch own (c ∷ cs) l f n N → Stretch own cs l f n N
  skip-back z s = record {
    pins = λ x. s.pins x ∙ stretch-skip z x;
    rising = s.rising;
    whole = rw (past_skip own cs c z) at s.whole;
    after = rw (past_skip own cs c z) at s.after;
  }
