use Rattle.std.proofs.Common.{Option, arith, ◌≡◌, sym, ap, ◌∙◌, subst, ℕ, ◌≤◌, ◌-◌, ◌+◌, ◌*◌}
use Rattle.model.specs.Search.{best_pair}
use Rattle.index.specs.Indexed.{kept-none, kept_then}
use Rattle.best_move.specs.declared.open.Move.{Move}
use Rattle.best_move.specs.Open.{Leads, Chosen, best_to, gain_in, open_in}
use Rattle.best_move.specs.OpenLaw.{no_lead, none_seen, lead-in, all-candidates}
use Rattle.best_move.specs.Peak.{lesser}
use Rattle.best_move.proofs.open.best_open.Goals as goal

pub loop-c-init : goal.loop-c-init
loop-c-init c =
    let a = c.args in
    let e : 0 ≡ lesser (64 * 0) a.n = omega arith in (
      kept-none a.index.now,
      c.measure.ensures,
      subst (Leads _) (none_seen a.candidates.now a.blocks.now a.weights.now a.loads.now a.ceilings.now (gain_in a.gains.now) a.n a.k
          ∙ ap (best_to (open_in a.candidates.now a.blocks.now a.weights.now a.loads.now a.ceilings.now) (gain_in a.gains.now) a.k) e) no_lead,
    )

pub best_in_part-best-requires : goal.best_in_part-best-requires
best_in_part-best-requires c =
    let l = c.loop-c in record { search_ok = c.requires.search_ok; peaked = (c.requires.peaked, omega (arith, c.div_ceil-c-end.ensures)); rooms = l.invariant.1; index_ok = record { in-index = omega (arith, c.requires.index_ok.in-index, l.invariant.0.len); on-board = c.requires.index_ok.on-board } }

pub loop-c-preserved : goal.loop-c-preserved
loop-c-preserved c =
    let a = c.args in
    let e : lesser (64 * c.loop-c.c) a.n ≡ 64 * c.loop-c.c = omega (arith, c.div_ceil-c-end.ensures) in
    let d : lesser (64 * c.loop-c.c + 64) a.n ≡ lesser (64 * (c.loop-c.c + 1)) a.n = omega arith in
    let searched = c.best_in_part-best in (
      kept_then c.loop-c.invariant.0 searched.ensures.kept,
      c.loop-c.invariant.1,
      subst (λ (i : ℕ). Leads searched.result (best_to (open_in a.candidates.now a.blocks.now a.weights.now a.loads.now a.ceilings.now) (gain_in a.gains.now) a.k i)) d
          (searched.ensures.leads (subst (λ (i : ℕ). Leads c.loop-c.best (best_to (open_in a.candidates.now a.blocks.now a.weights.now a.loads.now a.ceilings.now) (gain_in a.gains.now) a.k i)) e c.loop-c.invariant.2)),
    )

pub pair_at-requires : goal.pair_at-requires
pair_at-requires c =
    let l = c.loop-c in
    let a = c.args in
    omega (arith, c.requires.search_ok.n-to, lead-in a.candidates.now a.blocks.now a.weights.now a.loads.now a.ceilings.now (gain_in a.gains.now) a.n a.k (lesser (64 * l.c) a.n) l.best (omega arith) (omega (arith, c.div_ceil-c-end.ensures)) l.invariant.2)

pub returns : goal.returns
returns c =
    let l = c.loop-c in
    let a = c.args in record {
      chosen = subst (λ (r : Option Move). Chosen (gain_in a.gains.now) a.n a.k r (best_pair a.n a.k (open_in a.candidates.now a.blocks.now a.weights.now a.loads.now a.ceilings.now) (gain_in a.gains.now))) (sym c.pair_at.ensures)
          (all-candidates a.candidates.now a.blocks.now a.weights.now a.loads.now a.ceilings.now (gain_in a.gains.now) a.n a.k (lesser (64 * l.c) a.n) l.best (omega arith) (omega (arith, c.div_ceil-c-end.ensures)) l.invariant.2);
      kept = l.invariant.0;
    }

pub shape_of-index : goal.shape_of-index
shape_of-index c = c.loop-c.invariant.0.len
