-- The lines of one catalogue, wherever it begins: from its first line to the one after its last. What a file says goes on from there, a sale's and a hall's
-- alike. Rests on model's Through. Assumes nothing.
use Rattle.std.specs.Prelude.{ℕ, zero, suc, ◌+◌, ◌-◌, ◌≤◌, ◌<◌, ◌≡◌, Bool, ◌&&◌, length}
use Rattle.std.proofs.Common.{add-one, arith, ap, ◌∙◌, true≢false}
use Rattle.std.proofs.Math.Path.{refl, sym}
use Rattle.std.proofs.Math.Bool.{true, false, cond}
use Rattle.std.proofs.Math.Dec.{leb}
use mathlib.Core.List.{List, [], ◌∷◌}
use Rattle.model.specs.Catalogue.{Limits}
use Rattle.model.specs.Grammar.{Book, Reading, unread, reading, stopped, whole, line, ending, lines}
use Rattle.model.specs.Through.{Stage, ended, refused, stage_of, through}

-- neither a whole catalogue nor a refusal
unfoldable pub unfinished : Reading → Bool
unfinished unread = true
unfinished (stopped q m) = false
unfinished (reading k) = cond (whole k) false true

-- ---- its laws
pub stage-on : (n : ℕ) (ls : List (List ℕ)) (more : Stage) (r : Reading) → unfinished r ≡ true → stage_of n ls more r ≡ more
unfolding stage_of unfinished
stage-on n ls more unread e = refl
stage-on n ls more (stopped q m) e = absurd (true≢false (sym e))
stage-on n ls more (reading k) e = go (whole k) e
  where
    go : (t : Bool) → cond t false true ≡ true → cond t (ended k n ls) more ≡ more
    go true q = absurd (true≢false (sym q))
    go false q = refl

pub through-stopped : (limits : Limits) (n q m : ℕ) (ls : List (List ℕ)) → through limits n (stopped q m) ls ≡ refused q m
unfolding through stage_of
through-stopped limits n q m [] = refl
through-stopped limits n q m (l ∷ []) = refl
through-stopped limits n q m (l ∷ (k ∷ ls)) = refl

pub through-whole : (limits : Limits) (n : ℕ) (k : Book) (ls : List (List ℕ)) → whole k ≡ true → through limits n (reading k) ls ≡ ended k n ls
unfolding through stage_of
through-whole limits n k [] e = ap (λ (t : Bool). cond t (ended k n []) (refused 2 n)) e
through-whole limits n k (l ∷ []) e = ap (λ (t : Bool). cond t (ended k n (l ∷ [])) (refused 2 n)) e
through-whole limits n k (l ∷ (m ∷ ls)) e = ap (λ (t : Bool). cond t (ended k n (l ∷ (m ∷ ls))) (through limits (suc n) (line limits n (reading k) l) (m ∷ ls))) e

-- ---- a sale's file goes on with its call lines
unfoldable pub onward : Limits → Stage → Reading
onward limits (ended k n ls) = lines limits n (reading k) ls
onward limits (refused q m) = stopped q m

module _ (limits : Limits) where
  stays : (n q m : ℕ) (ls : List (List ℕ)) → lines limits n (stopped q m) ls ≡ stopped q m
  unfolding lines line ending
  stays n q m [] = refl
  stays n q m (l ∷ []) = refl
  stays n q m (l ∷ (k ∷ ls)) = stays (suc n) q m (k ∷ ls)

  last_line : (n : ℕ) (l : List ℕ) (r : Reading) → onward limits (stage_of n (l ∷ []) (refused 2 n) r) ≡ lines limits n r (l ∷ [])
  unfolding onward stage_of lines ending
  last_line n l unread = refl
  last_line n l (stopped q m) = refl
  last_line n [] (reading k) = go (whole k) refl
    where
      go : (t : Bool) → whole k ≡ t → onward limits (cond t (ended k n ([] ∷ [])) (refused 2 n)) ≡ cond (whole k) (reading k) (stopped 2 n)
      go true e = refl
      go false e = sym (ap (λ (t : Bool). cond t (reading k) (stopped 2 n)) e)
  last_line n (b ∷ bs) (reading k) = go (whole k) refl
    where
      go : (t : Bool) → whole k ≡ t → onward limits (cond t (ended k n ((b ∷ bs) ∷ [])) (refused 2 n)) ≡ ending n (reading k) (b ∷ bs)
      go true e = refl
      go false e = sym (ap (λ (t : Bool). cond (t && leb 512 (length k.calls)) (stopped 7 n) (stopped 2 n)) e)

  by-reading : (n : ℕ) (l m : List ℕ) (ls : List (List ℕ)) (r : Reading) (st : Stage) → lines limits (suc n) (line limits n r l) (m ∷ ls) ≡ onward limits st → lines limits (suc n) (line limits n r l) (m ∷ ls) ≡ onward limits (stage_of n (l ∷ (m ∷ ls)) st r)
  unfolding onward stage_of lines line
  by-reading n l m ls unread st e = e
  by-reading n l m ls (stopped q i) st e = stays (suc n) q i (m ∷ ls)
  by-reading n l m ls (reading k) st e = go (whole k)
    where
      go : (t : Bool) → lines limits (suc n) (line limits n (reading k) l) (m ∷ ls) ≡ onward limits (cond t (ended k n (l ∷ (m ∷ ls))) st)
      go true = refl
      go false = e

  pub lines-through : (n : ℕ) (r : Reading) (l : List ℕ) (ls : List (List ℕ)) → lines limits n r (l ∷ ls) ≡ onward limits (through limits n r (l ∷ ls))
  unfolding lines through
  lines-through n r l [] = sym (last_line n l r)
  lines-through n r l (m ∷ ls) = by-reading n l m ls r (through limits (suc n) (line limits n r l) (m ∷ ls)) (lines-through (suc n) (line limits n r l) m ls)
