-- On a stack of contractions that J makes (Sound) every climb ends on the board (representative-on). A further contraction gives the vertices
-- that its second vertex stood for to its first (representative-join): a net's pins change accordingly (pin-join). Rests on laws' choices.
-- Assumes nothing.
use Rattle.std.specs.Prelude.{ℕ, zero, suc, ◌≤◌, ◌≡◌, refl, Bool, true, false, ◌||◌, cond, List, [], ◌∷◌, eqb, length}
use Rattle.std.proofs.Math.Decide.{ℕ_discrete}
use Rattle.std.proofs.Common.{arith, sym, ap, ap₂, ◌∙◌, eq-eqb, ne_eqb}
use Rattle.std.proofs.Math.Bool.{or-false}
use Rattle.laws.specs.Choice.{cond_yes, cond_no}
use Rattle.laws.specs.Fold.{any, any-ext}
use Rattle.model.specs.Catalogue.{Net}
use Rattle.model.specs.Measure.{Contraction, above, climb, representative, pin}

-- a contraction that J may make on a stack: of two vertices, both on the board; 0 is no vertex
pub record Joins (cs : List Contraction) (c : Contraction) : Type 0 where
  pub real : 1 ≤ c.into
  pub into-on : above cs c.into ≡ 0
  pub gone-on : above cs c.gone ≡ 0
  pub two : c.into ≡ c.gone → ⊥

-- a stack that J makes
abbrev pub Sound : List Contraction → Type 0
Sound [] = Unit {0}
Sound (c ∷ cs) = Joins cs c × Sound cs

-- one step of a climb
pub climb-on : (f : ℕ) (cs : List Contraction) (x : ℕ) → above cs x ≡ 0 → climb f cs x ≡ x
unfolding climb
climb-on zero cs x q = refl
climb-on (suc f) cs x q = cond_yes (above cs x) 0 x (climb f cs (above cs x)) q

climb-off : (f : ℕ) (cs : List Contraction) (x : ℕ) → (above cs x ≡ 0 → ⊥) → climb (suc f) cs x ≡ climb f cs (above cs x)
unfolding climb
climb-off f cs x n = cond_no (above cs x) 0 x (climb f cs (above cs x)) n

climb-none : (cs : List Contraction) (x : ℕ) → climb 0 cs x ≡ x
unfolding climb
climb-none cs x = refl

module _ (cs : List Contraction) (c : Contraction) where
  pub above-gone : (x : ℕ) → c.gone ≡ x → above (c ∷ cs) x ≡ c.into
  unfolding above
  above-gone x q = cond_yes c.gone x c.into (above cs x) q

  pub above_other : (x : ℕ) → (c.gone ≡ x → ⊥) → above (c ∷ cs) x ≡ above cs x
  unfolding above
  above_other x n = cond_no c.gone x c.into (above cs x) n

  abbrev pub Joined : ℕ → ℕ → Type 0
  Joined f x = climb (suc f) (c ∷ cs) x ≡ cond (eqb (climb f cs x) c.gone) c.into (climb f cs x)

  module _ (j : Joins cs c) where
    -- the vertex that goes is one step below a vertex on the board
    join-gone : (f x : ℕ) → c.gone ≡ x → Joined f x
    join-gone f x q =
        climb-off f (c ∷ cs) x (λ r. omega (arith, j.real, above-gone x q))
        ∙ ap (climb f (c ∷ cs)) (above-gone x q)
        ∙ climb-on f (c ∷ cs) c.into (above_other c.into (λ r. j.two (sym r)) ∙ j.into-on)
        ∙ sym (cond_yes (climb f cs x) c.gone c.into (climb f cs x) (climb-on f cs x (ap (above cs) (sym q) ∙ j.gone-on) ∙ sym q))

    -- another vertex on the board stays there
    join-on : (f x : ℕ) → (c.gone ≡ x → ⊥) → above cs x ≡ 0 → Joined f x
    join-on f x n q =
        climb-on (suc f) (c ∷ cs) x (above_other x n ∙ q)
        ∙ sym (cond_no (climb f cs x) c.gone c.into (climb f cs x) (λ r. n (sym r ∙ climb-on f cs x q)) ∙ climb-on f cs x q)

    -- and any other goes as the one above it
    join-off : (f x : ℕ) → (c.gone ≡ x → ⊥) → (above cs x ≡ 0 → ⊥) → Joined f (above cs x) → Joined (suc f) x
    join-off f x n off ih =
        climb-off (suc f) (c ∷ cs) x (λ r. off (sym (above_other x n) ∙ r))
        ∙ ap (climb (suc f) (c ∷ cs)) (above_other x n)
        ∙ ih
        ∙ ap (λ (r : ℕ). cond (eqb r c.gone) c.into r) (sym (climb-off f cs x off))

    pub climb-join : (f x : ℕ) → above cs (climb f cs x) ≡ 0 → Joined f x
    climb-join zero x end = go (ℕ_discrete c.gone x)
      where
        go : Dec (c.gone ≡ x) → Joined 0 x
        go (yes q) = join-gone 0 x q
        go (no n) = join-on 0 x n (ap (above cs) (sym (climb-none cs x)) ∙ end)
    climb-join (suc f) x end = go (climb-join f (above cs x)) (ℕ_discrete c.gone x) (ℕ_discrete (above cs x) 0)
      where
        go : (above cs (climb f cs (above cs x)) ≡ 0 → Joined f (above cs x)) → Dec (c.gone ≡ x) → Dec (above cs x ≡ 0) → Joined (suc f) x
        go ih (yes q) d = join-gone (suc f) x q
        go ih (no n) (yes q) = join-on (suc f) x n q
        go ih (no n) (no off) = join-off f x n off (ih (ap (above cs) (sym (climb-off f cs x off)) ∙ end))

-- a climb ends on the board
on-join : (cs : List Contraction) (c : Contraction) → Joins cs c → (f x : ℕ) → above cs (climb f cs x) ≡ 0 → above (c ∷ cs) (climb (suc f) (c ∷ cs) x) ≡ 0
on-join cs c j f x end = go (ℕ_discrete (climb f cs x) c.gone)
  where
    go : Dec (climb f cs x ≡ c.gone) → above (c ∷ cs) (climb (suc f) (c ∷ cs) x) ≡ 0
    go (yes q) = ap (above (c ∷ cs)) (climb-join cs c j f x end ∙ cond_yes _ _ _ _ q) ∙ above_other cs c c.into (λ r. j.two (sym r)) ∙ j.into-on
    go (no n) = ap (above (c ∷ cs)) (climb-join cs c j f x end ∙ cond_no _ _ _ _ n) ∙ above_other cs c (climb f cs x) (λ r. n (sym r)) ∙ end

pub representative-on : (cs : List Contraction) → Sound cs → (x : ℕ) → above cs (representative cs x) ≡ 0
unfolding representative above
representative-on [] s x = refl
representative-on (c ∷ cs) s x = on-join cs c s.0 (length cs) x (representative-on cs s.1 x)

-- the representative after a contraction
pub representative-join : (cs : List Contraction) (c : Contraction) → Sound (c ∷ cs) → (x : ℕ) → representative (c ∷ cs) x ≡ cond (eqb (representative cs x) c.gone) c.into (representative cs x)
unfolding representative
representative-join cs c s x = climb-join cs c s.0 (length cs) x (representative-on cs s.1 x)

-- a vertex on the board represents itself
pub representative-self : (cs : List Contraction) (x : ℕ) → above cs x ≡ 0 → representative cs x ≡ x
unfolding representative
representative-self cs x q = climb-on (length cs) cs x q

pub any_none : {A : Type 0} (l : List A) (f : A → Bool) → ((x : A) → f x ≡ false) → any l f ≡ false
unfolding any
any_none [] f e = refl
any_none (x ∷ l) f e = rw (e x) (any_none l f e)

or-cross : (a b c d : Bool) → ((a || b) || (c || d)) ≡ ((a || c) || (b || d))
or-cross true b c d = refl
or-cross false true true d = refl
or-cross false true false d = refl
or-cross false false c d = refl

any-or : {A : Type 0} (l : List A) (f g : A → Bool) → any l (λ x. f x || g x) ≡ (any l f || any l g)
unfolding any
any-or [] f g = refl
any-or (x ∷ l) f g = ap (λ (b : Bool). (f x || g x) || b) (any-or l f g) ∙ or-cross (f x) (g x) (any l f) (any l g)

module _ (cs : List Contraction) (c : Contraction) (s : Sound (c ∷ cs)) where
  -- a vertex's new representative is v, u, or another, by its old one
  pub stands-gone : (y : ℕ) → eqb (representative (c ∷ cs) y) c.gone ≡ false
  stands-gone y = go (ℕ_discrete (representative cs y) c.gone)
    where
      go : Dec (representative cs y ≡ c.gone) → eqb (representative (c ∷ cs) y) c.gone ≡ false
      go (yes q) = ne_eqb _ _ (λ r. s.0.two (sym (representative-join cs c s y ∙ cond_yes _ _ _ _ q) ∙ r))
      go (no n) = ne_eqb _ _ (λ r. n (sym (representative-join cs c s y ∙ cond_no _ _ _ _ n) ∙ r))

  pub stands-into : (y : ℕ) → eqb (representative (c ∷ cs) y) c.into ≡ (eqb (representative cs y) c.into || eqb (representative cs y) c.gone)
  stands-into y = go (ℕ_discrete (representative cs y) c.gone)
    where
      go : Dec (representative cs y ≡ c.gone) → eqb (representative (c ∷ cs) y) c.into ≡ (eqb (representative cs y) c.into || eqb (representative cs y) c.gone)
      go (yes q) =
          eq-eqb _ _ (representative-join cs c s y ∙ cond_yes _ _ _ _ q)
          ∙ sym (ap₂ (λ (a b : Bool). a || b) (ne_eqb _ _ (λ r. s.0.two (sym r ∙ q))) (eq-eqb _ _ q))
      go (no n) =
          ap (λ (r : ℕ). eqb r c.into) (representative-join cs c s y ∙ cond_no _ _ _ _ n)
          ∙ sym (ap (λ (b : Bool). eqb (representative cs y) c.into || b) (ne_eqb _ _ n) ∙ or-false _)

  pub stands-other : (x : ℕ) → (x ≡ c.gone → ⊥) → (x ≡ c.into → ⊥) → (y : ℕ) → eqb (representative (c ∷ cs) y) x ≡ eqb (representative cs y) x
  stands-other x ng ni y = go (ℕ_discrete (representative cs y) c.gone)
    where
      go : Dec (representative cs y ≡ c.gone) → eqb (representative (c ∷ cs) y) x ≡ eqb (representative cs y) x
      go (yes q) =
          ne_eqb _ _ (λ r. ni (sym r ∙ (representative-join cs c s y ∙ cond_yes _ _ _ _ q)))
          ∙ sym (ne_eqb _ _ (λ r. ng (sym r ∙ q)))
      go (no n) = ap (λ (r : ℕ). eqb r x) (representative-join cs c s y ∙ cond_no _ _ _ _ n)

  -- the pins of a net after a contraction
  pub pin-gone : (e : Net) → pin (c ∷ cs) e c.gone ≡ false
  unfolding pin
  pin-gone e = any_none e.pins _ stands-gone

  pub pin-into : (e : Net) → pin (c ∷ cs) e c.into ≡ (pin cs e c.into || pin cs e c.gone)
  unfolding pin
  pin-into e = any-ext e.pins _ _ stands-into ∙ any-or e.pins _ _

  pub pin-other : (e : Net) (x : ℕ) → (x ≡ c.gone → ⊥) → (x ≡ c.into → ⊥) → pin (c ∷ cs) e x ≡ pin cs e x
  unfolding pin
  pin-other e x ng ni = any-ext e.pins _ _ (stands-other x ng ni)

  pub pin-join : (e : Net) (x : ℕ) → pin (c ∷ cs) e x ≡ cond (eqb x c.gone) false (cond (eqb x c.into) (pin cs e c.into || pin cs e c.gone) (pin cs e x))
  pin-join e x = go (ℕ_discrete x c.gone) (ℕ_discrete x c.into)
    where
      go : Dec (x ≡ c.gone) → Dec (x ≡ c.into) → pin (c ∷ cs) e x ≡ cond (eqb x c.gone) false (cond (eqb x c.into) (pin cs e c.into || pin cs e c.gone) (pin cs e x))
      go (yes q) d = ap (pin (c ∷ cs) e) q ∙ pin-gone e ∙ sym (cond_yes _ _ _ _ q)
      go (no n) (yes q) = ap (pin (c ∷ cs) e) q ∙ pin-into e ∙ sym (cond_no _ _ _ _ n ∙ cond_yes _ _ _ _ q)
      go (no n) (no m) = pin-other e x n m ∙ sym (cond_no _ _ _ _ n ∙ cond_no _ _ _ _ m)
