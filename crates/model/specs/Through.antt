-- The lines of one catalogue, wherever in a file it begins: from its first line to the one after its last. A sale's file and a hall's go on from there.
-- Rests on Grammar. Assumes nothing.
use Rattle.std.specs.Prelude.{ℕ, suc, cond, List, [], ◌∷◌}
use Rattle.model.specs.Catalogue.{Limits}
use Rattle.model.specs.Grammar.{Book, Reading, unread, reading, stopped, whole, line}

-- where a catalogue's lines end: the whole catalogue, the number of the next line and the lines from it on; or the refusal
pub data Stage : Type 0 where
  ended : Book → ℕ → List (List ℕ) → Stage
  refused : ℕ → ℕ → Stage

-- by what has been read: a whole catalogue and a refusal go no further
unfoldable pub stage_of : ℕ → List (List ℕ) → Stage → Reading → Stage
stage_of n ls more unread = more
stage_of n ls more (stopped q m) = refused q m
stage_of n ls more (reading k) = cond (whole k) (ended k n ls) more

-- the lines from the n-th on; a line that is missing or lacks its line feed is 2
unfoldable pub through : Limits → ℕ → Reading → List (List ℕ) → Stage
through limits n r [] = stage_of n [] (refused 2 n) r
through limits n r (l ∷ []) = stage_of n (l ∷ []) (refused 2 n) r
through limits n r (l ∷ (m ∷ ls)) = stage_of n (l ∷ (m ∷ ls)) (through limits (suc n) (line limits n r l) (m ∷ ls)) r
