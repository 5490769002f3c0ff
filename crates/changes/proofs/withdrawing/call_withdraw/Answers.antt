-- `call_withdraw` meets its contract: a refused X leaves all as it was, an accepted one is what `withdraw` makes of the tables.
use Rattle.std.proofs.Common.{arith, ◌+◌, refl, ap, ◌∙◌, length, set}
use Rattle.refusal.specs.Number.{number-some, handed_on}
use Rattle.model.specs.Machine.{says_x}
use Rattle.changes.specs.Turning.{turns_refused, take-spares, lot-in, take-stands, accepted-X, refused-X, done-X}
use Rattle.changes.proofs.withdrawing.call_withdraw.Goals as goal

pub returns-in_err-refuses_withdraw : goal.returns-in_err-refuses_withdraw
returns-in_err-refuses_withdraw c =
    let no = c.in_err-refuses_withdraw.ensures in
    let same = handed_on _ _ c.from_residual.ensures.1 in record {
      turns = λ limits a S space ceiling e w. rw same (turns_refused _ (says_x 0) (refused-X w e c.args.v no (number-some _) space ceiling (says_x 0)));
      len_after = rw same refl;
      all_right = λ right. right;
      spared = rw same tt;
    }

pub narrow-requires : goal.narrow-requires
narrow-requires c =
    let g = c.requires in
    omega (arith, lot-in g.stands c.args.v (accepted-X g.stands g.joins-are c.args.v c.in_ok-refuses_withdraw.ensures refl))

pub push-freed-requires : goal.push-freed-requires
push-freed-requires c =
    (c.requires.room, c.requires.stands.free-whole)

pub withdraw-rest-requires : goal.withdraw-rest-requires
withdraw-rest-requires c =
    let g = c.requires in
    record { limits = g.limits; a = g.a; S = g.S; total = _; numbers = _; len = _; marks = _; J = _; stands = g.stands; accepted = accepted-X g.stands g.joins-are c.args.v c.in_ok-refuses_withdraw.ensures refl }

pub shape_of-counts : goal.shape_of-counts
shape_of-counts c =
    c.withdraw-rest.ensures.renewed.reopened.prepared.counts-len

pub shape_of-visited : goal.shape_of-visited
shape_of-visited c =
    c.withdraw-rest.ensures.renewed.reopened.prepared.masks-len

pub shape_of-gains : goal.shape_of-gains
shape_of-gains c =
    c.withdraw-rest.ensures.renewed.reopened.prepared.gains.gains-len

pub shape_of-index : goal.shape_of-index
shape_of-index c =
    c.withdraw-rest.ensures.renewed.indexed.kept.len

pub shape_of-presentpins : goal.shape_of-presentpins
shape_of-presentpins c =
    c.withdraw-rest.ensures.renewed.reopened.ordered.len

pub shape_of-presentsizes : goal.shape_of-presentsizes
shape_of-presentsizes c =
    c.withdraw-rest.ensures.renewed.reopened.copied-sizes.len

pub shape_of-bits : goal.shape_of-bits
shape_of-bits c =
    c.withdraw-rest.ensures.renewed.reopened.prepared.bits-len

pub shape_of-blocks : goal.shape_of-blocks
shape_of-blocks c =
    c.withdraw-rest.ensures.lot.blocks-len

pub shape_of-weights : goal.shape_of-weights
shape_of-weights c =
    c.withdraw-rest.ensures.lot.weights-len

pub shape_of-aboves : goal.shape_of-aboves
shape_of-aboves c =
    c.withdraw-rest.ensures.lot.aboves-len

pub shape_of-fixed : goal.shape_of-fixed
shape_of-fixed c =
    c.withdraw-rest.ensures.lot.fixed-len

pub shape_of-loadedpins : goal.shape_of-loadedpins
shape_of-loadedpins c =
    c.withdraw-rest.ensures.out.pins-len

pub shape_of-firsts : goal.shape_of-firsts
shape_of-firsts c =
    c.withdraw-rest.ensures.out.firsts-len

pub shape_of-loadedsizes : goal.shape_of-loadedsizes
shape_of-loadedsizes c =
    c.withdraw-rest.ensures.out.sizes-len

pub returns : goal.returns
returns c =
    let no = c.in_ok-refuses_withdraw.ensures in
    let t = c.withdraw-rest.ensures in
    let v = c.args.v in
    let free = c.args.free in
    let pushed = c.push-freed.ensures in
    let cleared = c.clear-cleared.ensures in record {
      turns = λ limits a S space ceiling e w.
          done-X w e v no refl (take-stands w v (accepted-X w e v no refl) t.lot t.number_is t.out t.renewed (pushed.0 ∙ ap (set free.numbers free.len) c.narrow.ensures) pushed.1 c.requires.room
          (record { whole = record { xs-whole = ap length cleared.0 ∙ w.runs.journal-whole.xs-whole; ys-whole = ap length cleared.1 ∙ w.runs.journal-whole.ys-whole; short = omega (arith, cleared.2) }; none = cleared.2 })) space ceiling;
      len_after = tt;
      all_right = λ _. t.renewed.indexed.rows;
      spared = take-spares c.requires.stands v (accepted-X c.requires.stands c.requires.joins-are v no refl) t.lot t.number_is t.out t.renewed;
    }
