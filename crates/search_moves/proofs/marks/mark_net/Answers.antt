use Rattle.search_moves.specs.Marks.{net-marked, net-covered, net-more}
use Rattle.search_moves.proofs.marks.mark_net.Goals as goal

pub mark_all-requires : goal.mark_all-requires
mark_all-requires c =
    (c.requires.0, c.requires.2, c.requires.3, c.requires.4, c.requires.6)

pub returns : goal.returns
returns c =
    let marked = c.mark_all.ensures in
    let pins = c.args.presentpins.now in
    let firsts = c.args.firsts.now in
    let sizes = c.args.presentsizes.now in (
      net-marked pins firsts sizes c.args.e marked.0 c.put.ensures,
      net-covered pins firsts sizes c.args.e marked.0 c.put.ensures marked.1 c.requires.5,
      net-more pins firsts sizes c.args.e marked.0 c.put.ensures marked.1,
    )
