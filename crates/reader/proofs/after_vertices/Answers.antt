-- `reader::after_vertices` meets its contract.
use Rattle.std.proofs.Common.{arith}
use Rattle.std.proofs.lemmas.Result.{err_from_is_err_and}
use Rattle.reader.proofs.Ranges.{nets-cut, nets-over, nets-all}
use Rattle.reader.proofs.after_vertices.Goals as goal

pub read_nets-requires : goal.read_nets-requires
read_nets-requires c =
    let p = c.requires.1 in
    (c.requires.0, record { at-le = p.at-le; l_le = p.long.l_le; b-le = p.range.b-high; w-len = p.long.nw-len; f-len = p.long.f-len; c_len = p.long.c_len; few = p.long.few; wide = p.long.wide; slen = p.slen; fresh = p.fresh })

pub returns-in_err-read : goal.returns-in_err-read
returns-in_err-read c =
    let a = c.args in
    let h = a.head in
    let p = err_from_is_err_and c.from_residual.result c.from_residual.ensures.1 in
    rw (p.1, p.2) (nets-cut a.last a.s.now a.at a.most h.vertices h.nets h.blocks h.imbalance a.weights.now a.draft.now a.lows.now a.firsts.now a.loadedsizes.now a.loadedpins.now _ _ _ _ c.requires.1.long.w-len c.read_nets.result c.read_nets.ensures _ c.in_err-read.was)

pub overfull-over-requires : goal.overfull-over-requires
overfull-over-requires c =
    let p = c.requires.1 in
    (p.long.l_le, p.range.k-low, p.range.k-high, p.range.t-high, p.long.w-len, p.long.d-len, omega (arith, p.long.l_le, p.long.lo-len))

pub returns-then-over : goal.returns-then-over
returns-then-over c =
    let a = c.args in
    let h = a.head in
    rw c.at.ensures (nets-over a.last a.s.now a.at a.most h.vertices h.nets h.blocks h.imbalance a.weights.now a.draft.now a.lows.now a.firsts.now a.loadedsizes.now a.loadedpins.now _ _ _ _ c.requires.1.long.w-len c.read_nets.result c.read_nets.ensures _ c.in_ok-read.was c.overfull-over.result c.overfull-over.ensures c.if-over.true)

pub returns : goal.returns
returns c =
    let a = c.args in
    let h = a.head in
    nets-all a.last a.s.now a.at a.most h.vertices h.nets h.blocks h.imbalance a.weights.now a.draft.now a.lows.now a.firsts.now a.loadedsizes.now a.loadedpins.now _ _ _ _ c.requires.1.long.w-len c.read_nets.result c.read_nets.ensures _ c.in_ok-read.was c.overfull-over.result c.overfull-over.ensures c.if-over.false
