-- `reader::after_head` meets its contract.
use Rattle.std.proofs.Common.{arith, refl}
use Rattle.std.proofs.lemmas.Result.{err_from_is_err_and}
use Rattle.reader.proofs.Ranges.{lots-cut, lots-go, fresh_start}
use Rattle.reader.proofs.after_head.Goals as goal

pub read_vertices-requires : goal.read_vertices-requires
read_vertices-requires c =
    let p = c.requires in (p.0, p.2.l-low, p.4.l_le, p.4.w-len, p.4.d-len, p.3, p.4.lo-len, p.1)

pub returns-in_err-i : goal.returns-in_err-i
returns-in_err-i c =
    let a = c.args in
    let h = a.head in
    let p = err_from_is_err_and c.from_residual.result c.from_residual.ensures.1 in
    rw (p.1, p.2) (lots-cut a.line a.s.now a.at a.most h.vertices h.nets h.blocks h.imbalance h.estimated a.weights.now a.draft.now a.fixed.now a.firsts.now a.loadedsizes.now a.loadedpins.now _ _ _ _ c.read_vertices.result c.read_vertices.ensures _ c.in_err-i.was a.netweights.now a.firsts.now a.loadedsizes.now a.loadedpins.now)

pub after_vertices-requires : goal.after_vertices-requires
after_vertices-requires c =
    let p = c.requires in
    let kept = c.read_vertices.auto in
    (omega (arith, p.1, p.4.l_le), record { at-le = c.read_vertices.ensures.inside _ c.in_ok-i.was; range = p.2; long = record { l_le = p.4.l_le; w-len = omega (arith, p.4.w-len, kept.weights); d-len = omega (arith, p.4.d-len, kept.draft); nw-len = p.4.nw-len; lo-len = c.read_vertices.ensures.lo-len; f-len = p.4.f-len; c_len = p.4.c_len; few = p.4.few; wide = p.4.wide }; slen = refl; fresh = fresh_start })

pub returns : goal.returns
returns c =
    let a = c.args in
    let h = a.head in
    lots-go a.line a.s.now a.at a.most h.vertices h.nets h.blocks h.imbalance h.estimated a.weights.now a.draft.now a.fixed.now a.firsts.now a.loadedsizes.now a.loadedpins.now _ _ _ _ c.read_vertices.result c.read_vertices.ensures _ c.in_ok-i.was c.after_vertices.result _ _ _ _ c.after_vertices.ensures
