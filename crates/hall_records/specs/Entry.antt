-- What `core` and the hall's entry promise. Rests on Carried. Assumes nothing.
use Rattle.std.specs.Prelude.{ℕ, ◌≤◌, ◌<◌, ◌≡◌, refl, List, [], length, get_or, replicate}
use Rattle.std.proofs.Common.{not-suc-le-zero, arith, sym, ap, subst, ◌∙◌}
use Rattle.std.proofs.lemmas.List.{length-replicate, get_or-replicate}
use Rattle.model.specs.HallText.{parse_hall}
use Rattle.model.specs.HallDemand.{long_hall, HallServes}
use Rattle.records.specs.declared.Lot.{Lot}
use Rattle.hall_records.specs.declared.answering.HallAnswer.{HallAnswer}
use Rattle.hall_columns.specs.Entry.{lots_written}
use Rattle.hall_records.specs.Placed.{placed, placed-none}
use Rattle.hall_records.specs.Gathered.{Gathered}
use Rattle.model.specs.HallLent.{HallOthers}
use Rattle.hall_records.specs.Lent.{hall_in_tables, lent_hall}
use Rattle.hall_records.specs.Carried.{OfLength, no_room, serves-records}

-- an answer with the records of all lots of some columns, which are so many in each set
pub record Gathers (counts : List ℕ) (weights blocks aboves fixed : List (List ℕ)) (code written : ℕ) (r : HallAnswer) : Type 0 where
  pub gathered : Gathered counts weights blocks aboves fixed 4096 r.n r.places r.lots
  pub code_is : r.code ≡ code
  pub written_is : r.written ≡ written

-- `core`, which is told how many records there is space for: whatever records these are, once the first n are written, each at its place, the hall's promise holds of them
pub record HallAnswers (file : List ℕ) (room : ℕ) (output : List ℕ) (t : HallOthers) (output' : List ℕ) (t' : HallOthers) (r : HallAnswer) : Type 0 where
  pub small : r.n ≤ 4096
  pub inside : (i : ℕ) → i < r.n → get_or r.places i 0 < room
  pub serves : (lots : List Lot) → length lots ≡ room → HallServes file (lent_hall output lots t) (lent_hall output' (placed r.n r.places r.lots lots) t') r.code r.written

-- 8: too few records, and none is written
pub short-answers : (file output : List ℕ) (room : ℕ) (t : HallOthers) (r : HallAnswer) → room < 4096 → r.n ≡ 0 → r.code ≡ 8 → r.written ≡ 0 → HallAnswers file room output t output t r
short-answers file output room t r short n-is code_is written_is = record {
  small = omega (arith, n-is);
  inside = λ i l. absurd (not-suc-le-zero (subst (λ (m : ℕ). i < m) n-is l));
  serves = λ lots e.
      subst (λ (x : ℕ). HallServes file (lent_hall output lots t) (lent_hall output (placed r.n r.places r.lots lots) t) x r.written) (sym code_is)
      (subst (λ (x : ℕ). HallServes file (lent_hall output lots t) (lent_hall output (placed r.n r.places r.lots lots) t) 8 x) (sym written_is)
      (subst (λ (l : List Lot). HallServes file (lent_hall output lots t) (lent_hall output l t) 8 0) (sym (ap (λ (m : ℕ). placed m r.places r.lots lots) n-is ∙ placed-none r.places r.lots lots))
      (no_room file output lots t (omega (arith, short, e)))));
}

-- columns of zeros, as `core` makes them
abbrev pub zeros : List (List ℕ)
zeros = replicate 4 (replicate 1024 0)

zeros-long : OfLength zeros
zeros-long c l = ap length (get_or-replicate 4 c (replicate 1024 0) [] l) ∙ length-replicate {A = ℕ} 1024 0

-- else the hall's promise on such columns, carried over to the records that are gathered from them
pub long-answers : (file output output' : List ℕ) (room : ℕ) (weights blocks aboves fixed : List (List ℕ)) (t t' : HallOthers) (counts : List ℕ) (code written : ℕ) (r : HallAnswer) → 4096 ≤ room
    → Gathers counts weights blocks aboves fixed code written r
    → ((c : ℕ) → c < 4 → get_or counts c 0 ≡ lots_written (long_hall (hall_in_tables output zeros zeros zeros zeros t)) (parse_hall file) c)
    → HallServes file (hall_in_tables output zeros zeros zeros zeros t) (hall_in_tables output' weights blocks aboves fixed t') code written
    → HallAnswers file room output t output' t' r
long-answers file output output' room weights blocks aboves fixed t t' counts code written r long g known s = record {
  small = g.gathered.few;
  inside = λ i l. omega (arith, long, g.gathered.below i l);
  serves = λ lots e.
      subst (λ (x : ℕ). HallServes file (lent_hall output lots t) (lent_hall output' (placed r.n r.places r.lots lots) t') x r.written) (sym g.code_is)
      (subst (λ (x : ℕ). HallServes file (lent_hall output lots t) (lent_hall output' (placed r.n r.places r.lots lots) t') code x) (sym g.written_is)
      (serves-records file output output' zeros zeros zeros zeros weights blocks aboves fixed t t' counts r.places r.lots lots r.n code written zeros-long zeros-long zeros-long zeros-long (omega (arith, long, e)) g.gathered known s));
}

-- the entry, once `write_at` has written what `core` answers
pub hall-served : (file output : List ℕ) (t : HallOthers) (output' : List ℕ) (t' : HallOthers) (r : HallAnswer) (lots lots' : List Lot) → HallAnswers file (length lots) output t output' t' r → lots' ≡ placed r.n r.places r.lots lots
    → HallServes file (lent_hall output lots t) (lent_hall output' lots' t') r.code r.written
hall-served file output t output' t' r lots lots' c e = subst (λ (l : List Lot). HallServes file (lent_hall output lots t) (lent_hall output' l t') r.code r.written) (sym e) (c.serves lots refl)
