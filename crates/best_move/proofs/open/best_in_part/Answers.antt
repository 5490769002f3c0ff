-- `best_in_part`: the part is searched, or its peak is not above the best gain and it is passed over.
use Rattle.std.proofs.Common.{arith, ◌≡◌, sym, ◌∙◌, ap₂, subst, ℕ, ◌+◌, ◌*◌, ◌-◌, ℤ}
use Rattle.std.specs.Int.Signed.{lt_z}
use Rattle.index.specs.Indexed.{kept-none, kept-wide}
use Rattle.laws.specs.Integer.{read32}
use Rattle.best_move.specs.Open.{Leads, best_to, gain_in, open_in}
use Rattle.best_move.specs.OpenLaw.{read64}
use Rattle.best_move.specs.Peak.{lesser}
use Rattle.best_move.specs.PeakLaw.{passed_over}
use Rattle.best_move.proofs.open.best_in_part.Goals as goal

pub best_among-requires : goal.best_among-requires
best_among-requires c =
    let h = c.requires.search_ok in
    let i = c.requires.index_ok in
    let e : c.min.result ≡ lesser 64 (c.args.n - 64 * c.args.c) = omega (arith, c.min.ensures) in record { search_ok = (record { n-to = omega (arith, h.n-to, c.requires.peaked.1); k-to = h.k-to; in-gains = omega (arith, h.in-gains, c.requires.peaked.1); in_blocks = omega (arith, h.in_blocks, c.requires.peaked.1); in-weights = omega (arith, h.in-weights, c.requires.peaked.1); in-candidates = h.in-candidates }, omega arith, omega (arith, h.n-to, c.requires.peaked.1)); peaked = record { len = c.requires.peaked.0.len; under = λ x b l u. c.requires.peaked.0.under x b (omega (arith, l, c.requires.peaked.1)) u }; rooms = c.requires.rooms; index_ok = record { in-index = omega (arith, i.in-index, c.requires.peaked.1); on-board = λ x l. i.on-board x (omega (arith, l, c.requires.peaked.1)) } }

pub returns-then-top-peak : goal.returns-then-top-peak
returns-then-top-peak c =
    let a = c.args in
    let searched = c.best_among in
    let e : 64 * a.c + c.min.result ≡ lesser (64 * a.c + 64) a.n = omega (arith, c.min.ensures, c.requires.peaked.1) in record { leads = λ h. subst (λ (to : ℕ). Leads searched.result (best_to (open_in a.candidates.now a.blocks.now a.weights.now a.loads.now a.ceilings.now) (gain_in a.gains.now) a.k to)) e (searched.ensures.leads h); kept = kept-wide (omega (arith, e)) searched.ensures.kept }

pub returns : goal.returns
returns c =
    let a = c.args in record {
      leads = λ h. passed_over (open_in a.candidates.now a.blocks.now a.weights.now a.loads.now a.ceilings.now) a.gains.now a.peaks.now a.n a.k a.c a.before c.requires.peaked.0 c.requires.peaked.1 c.from-arg-1.given
          (sym (ap₂ (λ (x y : ℤ). lt_z x y) (read64 a.before.top c.struct_told-1.given.1.0.1) (read64 _ c.from-peak.type_inv ∙ c.from-peak.ensures ∙ read32 _ c.from-arg-1.given)) ∙ c.if-top-peak.false) h;
      kept = kept-none a.index.now;
    }
