use Rattle.std.proofs.Common.{arith, refl, ap, ◌-◌, get_or}
use Rattle.refusal.specs.Number.{handed_on}
use Rattle.index.specs.Indexed.{right-same}
use Rattle.model.specs.Machine.{says_no}
use Rattle.model.specs.Hall.{ceiling_beside}
use Rattle.report.specs.Meaning.{done-none}
use Rattle.beside.specs.Called.{back-reads, refused-25, called-beside, relay-reads, relay-done, over-yes, over-no, told-as}
use Rattle.beside.proofs.performing.perform_beside.Goals as goal

pub refuses_back-requires : goal.refuses_back-requires
refuses_back-requires c = back-reads c.args.rooms.now c.requires.ready_a.ready

pub returns-in_err-refuses_back : goal.returns-in_err-refuses_back
returns-in_err-refuses_back c = record {
  beside_called = λ o h p q f. rw (handed_on _ _ c.from_residual.ensures.1)
      (let over = over-yes _ _ c.in_err-refuses_back.ensures in told-as (ap says_no over.1) (refused-25 _ c.args.letter c.args.x c.args.y over.0 q));
  keeps_right = right-same _;
}

pub perform-requires : goal.perform-requires
perform-requires c = c.requires

pub relay-requires : goal.relay-requires
relay-requires c = relay-reads c.requires.ready_a.ready (c.in-Err.ensures.called c.requires.ready_a.ready.h (λ t. get_or c.args.ceilings.now (t - 1) 0) c.requires.ready_a.average-is (λ _ _ _. refl) c.requires.ready_a.fixed) refl

pub returns-in-Ok : goal.returns-in-Ok
returns-in-Ok c = record {
  beside_called = λ o h p q f. told-as (relay-done c.args.letter _ _ (λ z. omega (arith, z, done-none c.in-Ok.turn.answer)))
      (called-beside c.args.letter c.args.x c.args.y (refl, refl) q (c.in-Ok.ensures.called h (ceiling_beside o h) p q.both f) (over-no _ c.in_ok-refuses_back.ensures));
  keeps_right = c.perform.ensures.keeps_right;
}

pub returns-in-Err : goal.returns-in-Err
returns-in-Err c = record {
  beside_called = λ o h p q f. told-as c.relay.ensures (called-beside c.args.letter c.args.x c.args.y (refl, refl) q (c.in-Err.ensures.called h (ceiling_beside o h) p q.both f) (over-no _ c.in_ok-refuses_back.ensures));
  keeps_right = c.perform.ensures.keeps_right;
}
