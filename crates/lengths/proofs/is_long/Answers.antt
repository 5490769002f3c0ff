use Rattle.std.proofs.Common.{refl, ap, not}
use Rattle.edit_calls.specs.Refusal.{both-no, both_yes}
use Rattle.lengths.specs.Tests.{by_tests, short-no, short-yes, lists-test}
use Rattle.lengths.proofs.is_long.Goals as goal

pub returns-then-output-lt60000 : goal.returns-then-output-lt60000
returns-then-output-lt60000 c limits q = by_tests limits _ q (short-no 60000 _ _ c.if-output-lt60000.true)

pub returns-then-weights-lots : goal.returns-then-weights-lots
returns-then-weights-lots c limits q = by_tests limits _ q (short-yes 60000 _ c.if-output-lt60000.false (short-no _ _ _ c.if-weights-lots.true))

pub returns-then-blocks-lots : goal.returns-then-blocks-lots
returns-then-blocks-lots c limits q = by_tests limits _ q (short-yes 60000 _ c.if-output-lt60000.false (short-yes _ _ c.if-weights-lots.false (short-no _ _ _ c.if-blocks-lots.true)))

pub returns-then-aboves-lots : goal.returns-then-aboves-lots
returns-then-aboves-lots c limits q =
    by_tests limits _ q (short-yes 60000 _ c.if-output-lt60000.false (short-yes _ _ c.if-weights-lots.false (short-yes _ _ c.if-blocks-lots.false (short-no _ _ _ c.if-aboves-lots.true))))

pub returns-then-fixed-lots : goal.returns-then-fixed-lots
returns-then-fixed-lots c limits q =
    by_tests limits _ q (short-yes 60000 _ c.if-output-lt60000.false (short-yes _ _ c.if-weights-lots.false (short-yes _ _ c.if-blocks-lots.false (short-yes _ _ c.if-aboves-lots.false (short-no _ _ _ c.if-fixed-lots.true)))))

pub returns-then-not-are_long : goal.returns-then-not-are_long
returns-then-not-are_long c limits q =
    by_tests limits _ q (short-yes 60000 _ c.if-output-lt60000.false (short-yes _ _ c.if-weights-lots.false (short-yes _ _ c.if-blocks-lots.false (short-yes _ _ c.if-aboves-lots.false (short-yes _ _ c.if-fixed-lots.false (both-no _ _ (lists-test _ c.are_long.ensures) (ap not c.if-not-are_long.true)))))))

pub returns-then-counts-lt16384 : goal.returns-then-counts-lt16384
returns-then-counts-lt16384 c limits q =
    by_tests limits _ q (short-yes 60000 _ c.if-output-lt60000.false (short-yes _ _ c.if-weights-lots.false (short-yes _ _ c.if-blocks-lots.false (short-yes _ _ c.if-aboves-lots.false (short-yes _ _ c.if-fixed-lots.false (both_yes _ _ (lists-test _ c.are_long.ensures) (ap not c.if-not-are_long.false) (short-no 16384 _ _ c.if-counts-lt16384.true)))))))

pub returns-then-gains-lots : goal.returns-then-gains-lots
returns-then-gains-lots c limits q =
    by_tests limits _ q (short-yes 60000 _ c.if-output-lt60000.false (short-yes _ _ c.if-weights-lots.false (short-yes _ _ c.if-blocks-lots.false (short-yes _ _ c.if-aboves-lots.false (short-yes _ _ c.if-fixed-lots.false (both_yes _ _ (lists-test _ c.are_long.ensures) (ap not c.if-not-are_long.false) (short-yes 16384 _ c.if-counts-lt16384.false (short-no _ _ _ c.if-gains-lots.true))))))))

pub returns-then-index-lots : goal.returns-then-index-lots
returns-then-index-lots c limits q =
    by_tests limits _ q (short-yes 60000 _ c.if-output-lt60000.false (short-yes _ _ c.if-weights-lots.false (short-yes _ _ c.if-blocks-lots.false (short-yes _ _ c.if-aboves-lots.false (short-yes _ _ c.if-fixed-lots.false (both_yes _ _ (lists-test _ c.are_long.ensures) (ap not c.if-not-are_long.false) (short-yes 16384 _ c.if-counts-lt16384.false (short-yes _ _ c.if-gains-lots.false (short-no _ _ _ c.if-index-lots.true)))))))))

pub returns : goal.returns
returns c limits q =
    by_tests limits _ q (short-yes 60000 _ c.if-output-lt60000.false (short-yes _ _ c.if-weights-lots.false (short-yes _ _ c.if-blocks-lots.false (short-yes _ _ c.if-aboves-lots.false (short-yes _ _ c.if-fixed-lots.false (both_yes _ _ (lists-test _ c.are_long.ensures) (ap not c.if-not-are_long.false) (short-yes 16384 _ c.if-counts-lt16384.false (short-yes _ _ c.if-gains-lots.false (short-yes _ _ c.if-index-lots.false refl)))))))))
