-- `call_add` meets its contract: a refused N leaves all as it was, an accepted one is what `place` makes of the tables, with the number that is next.
use Rattle.std.proofs.Common.{arith, ◌≡◌, refl, ap, ◌∙◌, length}
use Rattle.refusal.specs.Number.{number-some, handed_on}
use Rattle.model.specs.Machine.{says_n}
use Rattle.change_rules.specs.Free.{next-is}
use Rattle.changes.specs.Stands.{all-lots}
use Rattle.changes.specs.Turning.{turns_refused}
use Rattle.changes.specs.Adding.{larger, put-spares, lots-are, accepted-N, refused-N, done-N, put-stands}
use Rattle.changes.proofs.adding.call_add.Goals as goal

pub overflow_sub-n : goal.overflow_sub-n
overflow_sub-n c =
    let g = c.requires.asks in
    let a = c.args in
    omega (arith, lots-are g)

pub refuses_add-requires : goal.refuses_add-requires
refuses_add-requires c =
    let g = c.requires.asks in
    let a = c.args in
    let s = g.stands.runs.sound in
    (refl, s.follows.world.frame.few-nets, s.follows.world.frame.few, s.loads-fit, c.requires.ceilings-whole)

pub returns-in_err-refuses_add : goal.returns-in_err-refuses_add
returns-in_err-refuses_add c =
    let a = c.args in
    let no = c.in_err-refuses_add.ensures.0 in
    let same = handed_on _ _ c.from_residual.ensures.1 in record {
      turns = λ limits sale S ceiling g. rw same (turns_refused _ (says_n 0 0) (refused-N g a.bales a.session refl refl no (number-some _) (says_n 0 0)));
      len_after = rw same refl;
      all_right = λ right. rw same right;
      spared = rw same tt;
    }

pub next-v-requires : goal.next-v-requires
next-v-requires c =
    let g = c.requires.asks in
    let a = c.args in
    (g.stands.free-short, g.stands.free-whole, (lots-are g).1)

pub place-rest-requires : goal.place-rest-requires
place-rest-requires c =
    let g = c.requires.asks in
    let a = c.args in
    let w = g.stands in
    record {
      limits = c.requires.limits;
      a = c.requires.a;
      S = c.requires.S;
      known = _;
      total = _;
      numbers = _;
      len = _;
      marks = _;
      J = _;
      buyers = a.buyers.now;
      stands = w;
      accepted = accepted-N g a.bales a.session refl refl c.in_ok-refuses_add.ensures.0 refl;
      told = c.in_ok-refuses_add.ensures.1 refl;
      number_is = c.next-v.ensures ∙ next-is c.requires.a.graph a.free.numbers a.free.len a.n c.requires.a.free (all-lots w) w.free-is;
      known_is = (c.max-known.ensures ∙ larger _ _);
    }

pub shape_of-counts : goal.shape_of-counts
shape_of-counts c =
    c.place-rest.ensures.renewed.reopened.prepared.counts-len

pub shape_of-visited : goal.shape_of-visited
shape_of-visited c =
    c.place-rest.ensures.renewed.reopened.prepared.masks-len

pub shape_of-gains : goal.shape_of-gains
shape_of-gains c =
    c.place-rest.ensures.renewed.reopened.prepared.gains.gains-len

pub shape_of-index : goal.shape_of-index
shape_of-index c =
    c.place-rest.ensures.renewed.indexed.kept.len

pub shape_of-presentpins : goal.shape_of-presentpins
shape_of-presentpins c =
    c.place-rest.ensures.renewed.reopened.ordered.len

pub shape_of-presentsizes : goal.shape_of-presentsizes
shape_of-presentsizes c =
    c.place-rest.ensures.renewed.reopened.copied-sizes.len

pub shape_of-bits : goal.shape_of-bits
shape_of-bits c =
    c.place-rest.ensures.renewed.reopened.prepared.bits-len

pub shape_of-blocks : goal.shape_of-blocks
shape_of-blocks c =
    c.place-rest.ensures.lot.blocks-len

pub shape_of-weights : goal.shape_of-weights
shape_of-weights c =
    c.place-rest.ensures.lot.weights-len

pub shape_of-aboves : goal.shape_of-aboves
shape_of-aboves c =
    c.place-rest.ensures.lot.aboves-len

pub shape_of-fixed : goal.shape_of-fixed
shape_of-fixed c =
    c.place-rest.ensures.lot.fixed-len

pub shape_of-loadedpins : goal.shape_of-loadedpins
shape_of-loadedpins c =
    c.place-rest.ensures.into.pins-len

pub shape_of-firsts : goal.shape_of-firsts
shape_of-firsts c =
    c.place-rest.ensures.into.firsts-len

pub shape_of-loadedsizes : goal.shape_of-loadedsizes
shape_of-loadedsizes c =
    c.place-rest.ensures.into.sizes-len

pub returns : goal.returns
returns c =
    let a = c.args in
    let no = c.in_ok-refuses_add.ensures.0 in
    let told = c.in_ok-refuses_add.ensures.1 refl in
    let next = c.next-v.ensures in
    let v = c.next-v.result in
    let known = (c.max-known.ensures ∙ larger _ _) in
    let t = c.place-rest.ensures in
    let popped = c.pop-left.ensures in
    let cleared = c.clear-cleared.ensures in record {
      turns = λ limits sale S ceiling g.
          let w = g.stands in
          let number = next ∙ next-is sale.graph a.free.numbers a.free.len a.n sale.free (all-lots w) w.free-is in
          done-N g a.bales a.session refl refl no refl v number
          (put-stands w a.bales a.session a.buyers.now (accepted-N g a.bales a.session refl refl no refl) v number told t.sum_is t.seat-is t.lot t.number_is t.into known t.renewed popped.0 popped.1
          (record { whole = record { xs-whole = ap length cleared.0 ∙ w.runs.journal-whole.xs-whole; ys-whole = ap length cleared.1 ∙ w.runs.journal-whole.ys-whole; short = omega (arith, cleared.2) }; none = cleared.2 }));
      len_after = tt;
      all_right = λ _. t.renewed.indexed.rows;
      spared = let g = c.requires.asks in let w = g.stands in put-spares w a.bales a.session a.buyers.now (accepted-N g a.bales a.session refl refl no refl) v (next ∙ next-is c.requires.a.graph a.free.numbers a.free.len a.n c.requires.a.free (all-lots w) w.free-is) told t.sum_is t.seat-is t.lot t.number_is t.into known t.renewed;
    }
