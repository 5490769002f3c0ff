-- `hall_columns::has_four` meets its contract: one test after another.
use Rattle.std.proofs.Common.{refl}
use Rattle.lengths.specs.Tests.{short-no, short-yes}
use Rattle.hall_columns.specs.Sets.{by_tests}
use Rattle.hall_columns.proofs.has_four.Goals as goal

pub returns-then-weights-lt4 : goal.returns-then-weights-lt4
returns-then-weights-lt4 c = by_tests _ (short-no 4 _ _ c.if-weights-lt4.true)

pub returns-then-blocks-lt4 : goal.returns-then-blocks-lt4
returns-then-blocks-lt4 c = by_tests _ (short-yes 4 _ c.if-weights-lt4.false (short-no 4 _ _ c.if-blocks-lt4.true))

pub returns-then-aboves-lt4 : goal.returns-then-aboves-lt4
returns-then-aboves-lt4 c = by_tests _ (short-yes 4 _ c.if-weights-lt4.false (short-yes 4 _ c.if-blocks-lt4.false (short-no 4 _ _ c.if-aboves-lt4.true)))

pub returns-then-fixed-lt4 : goal.returns-then-fixed-lt4
returns-then-fixed-lt4 c = by_tests _ (short-yes 4 _ c.if-weights-lt4.false (short-yes 4 _ c.if-blocks-lt4.false (short-yes 4 _ c.if-aboves-lt4.false (short-no 4 _ _ c.if-fixed-lt4.true))))

pub returns-then-loadedpins-lt4 : goal.returns-then-loadedpins-lt4
returns-then-loadedpins-lt4 c = by_tests _ (short-yes 4 _ c.if-weights-lt4.false (short-yes 4 _ c.if-blocks-lt4.false (short-yes 4 _ c.if-aboves-lt4.false (short-yes 4 _ c.if-fixed-lt4.false (short-no 4 _ _ c.if-loadedpins-lt4.true)))))

pub returns-then-presentpins-lt4 : goal.returns-then-presentpins-lt4
returns-then-presentpins-lt4 c = by_tests _ (short-yes 4 _ c.if-weights-lt4.false (short-yes 4 _ c.if-blocks-lt4.false (short-yes 4 _ c.if-aboves-lt4.false (short-yes 4 _ c.if-fixed-lt4.false (short-yes 4 _ c.if-loadedpins-lt4.false (short-no 4 _ _ c.if-presentpins-lt4.true))))))

pub returns-then-firsts-lt4 : goal.returns-then-firsts-lt4
returns-then-firsts-lt4 c = by_tests _ (short-yes 4 _ c.if-weights-lt4.false (short-yes 4 _ c.if-blocks-lt4.false (short-yes 4 _ c.if-aboves-lt4.false (short-yes 4 _ c.if-fixed-lt4.false (short-yes 4 _ c.if-loadedpins-lt4.false (short-yes 4 _ c.if-presentpins-lt4.false (short-no 4 _ _ c.if-firsts-lt4.true)))))))

pub returns-then-loadedsizes-lt4 : goal.returns-then-loadedsizes-lt4
returns-then-loadedsizes-lt4 c = by_tests _ (short-yes 4 _ c.if-weights-lt4.false (short-yes 4 _ c.if-blocks-lt4.false (short-yes 4 _ c.if-aboves-lt4.false (short-yes 4 _ c.if-fixed-lt4.false (short-yes 4 _ c.if-loadedpins-lt4.false (short-yes 4 _ c.if-presentpins-lt4.false (short-yes 4 _ c.if-firsts-lt4.false (short-no 4 _ _ c.if-loadedsizes-lt4.true))))))))

pub returns-then-presentsizes-lt4 : goal.returns-then-presentsizes-lt4
returns-then-presentsizes-lt4 c = by_tests _ (short-yes 4 _ c.if-weights-lt4.false (short-yes 4 _ c.if-blocks-lt4.false (short-yes 4 _ c.if-aboves-lt4.false (short-yes 4 _ c.if-fixed-lt4.false (short-yes 4 _ c.if-loadedpins-lt4.false (short-yes 4 _ c.if-presentpins-lt4.false (short-yes 4 _ c.if-firsts-lt4.false (short-yes 4 _ c.if-loadedsizes-lt4.false (short-no 4 _ _ c.if-presentsizes-lt4.true)))))))))

pub returns-then-counts-lt4 : goal.returns-then-counts-lt4
returns-then-counts-lt4 c = by_tests _ (short-yes 4 _ c.if-weights-lt4.false (short-yes 4 _ c.if-blocks-lt4.false (short-yes 4 _ c.if-aboves-lt4.false (short-yes 4 _ c.if-fixed-lt4.false (short-yes 4 _ c.if-loadedpins-lt4.false (short-yes 4 _ c.if-presentpins-lt4.false (short-yes 4 _ c.if-firsts-lt4.false (short-yes 4 _ c.if-loadedsizes-lt4.false (short-yes 4 _ c.if-presentsizes-lt4.false (short-no 4 _ _ c.if-counts-lt4.true))))))))))

pub returns-then-gains-lt4 : goal.returns-then-gains-lt4
returns-then-gains-lt4 c = by_tests _ (short-yes 4 _ c.if-weights-lt4.false (short-yes 4 _ c.if-blocks-lt4.false (short-yes 4 _ c.if-aboves-lt4.false (short-yes 4 _ c.if-fixed-lt4.false (short-yes 4 _ c.if-loadedpins-lt4.false (short-yes 4 _ c.if-presentpins-lt4.false (short-yes 4 _ c.if-firsts-lt4.false (short-yes 4 _ c.if-loadedsizes-lt4.false (short-yes 4 _ c.if-presentsizes-lt4.false (short-yes 4 _ c.if-counts-lt4.false (short-no 4 _ _ c.if-gains-lt4.true)))))))))))

pub returns-then-index-lt4 : goal.returns-then-index-lt4
returns-then-index-lt4 c = by_tests _ (short-yes 4 _ c.if-weights-lt4.false (short-yes 4 _ c.if-blocks-lt4.false (short-yes 4 _ c.if-aboves-lt4.false (short-yes 4 _ c.if-fixed-lt4.false (short-yes 4 _ c.if-loadedpins-lt4.false (short-yes 4 _ c.if-presentpins-lt4.false (short-yes 4 _ c.if-firsts-lt4.false (short-yes 4 _ c.if-loadedsizes-lt4.false (short-yes 4 _ c.if-presentsizes-lt4.false (short-yes 4 _ c.if-counts-lt4.false (short-yes 4 _ c.if-gains-lt4.false (short-no 4 _ _ c.if-index-lt4.true))))))))))))

pub returns : goal.returns
returns c = by_tests _ (short-yes 4 _ c.if-weights-lt4.false (short-yes 4 _ c.if-blocks-lt4.false (short-yes 4 _ c.if-aboves-lt4.false (short-yes 4 _ c.if-fixed-lt4.false (short-yes 4 _ c.if-loadedpins-lt4.false (short-yes 4 _ c.if-presentpins-lt4.false (short-yes 4 _ c.if-firsts-lt4.false (short-yes 4 _ c.if-loadedsizes-lt4.false (short-yes 4 _ c.if-presentsizes-lt4.false (short-yes 4 _ c.if-counts-lt4.false (short-yes 4 _ c.if-gains-lt4.false (short-yes 4 _ c.if-index-lt4.false (refl)))))))))))))
