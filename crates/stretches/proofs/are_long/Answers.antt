-- `stretches::are_long` meets its contract.
use Rattle.std.proofs.Common.{refl, true, false, le-leb}
use Rattle.std.proofs.lemmas.Bool.{lt-leb}
use Rattle.stretches.proofs.Handing.{long-is}
use Rattle.stretches.proofs.are_long.Goals as goal

pub returns-then-loadedpins-lt8192 : goal.returns-then-loadedpins-lt8192
returns-then-loadedpins-lt8192 c = let a = c.args in long-is a.loadedpins.now a.presentpins.now a.firsts.now a.loadedsizes.now a.presentsizes.now false _ _ _ _ (lt-leb 8192 _ c.if-loadedpins-lt8192.true) refl refl refl refl

pub returns-then-presentpins-lt8192 : goal.returns-then-presentpins-lt8192
returns-then-presentpins-lt8192 c = let a = c.args in long-is a.loadedpins.now a.presentpins.now a.firsts.now a.loadedsizes.now a.presentsizes.now true false _ _ _ (le-leb 8192 _ c.if-loadedpins-lt8192.false) (lt-leb 8192 _ c.if-presentpins-lt8192.true) refl refl refl

pub returns-then-firsts-lt1024 : goal.returns-then-firsts-lt1024
returns-then-firsts-lt1024 c =
    let a = c.args in long-is a.loadedpins.now a.presentpins.now a.firsts.now a.loadedsizes.now a.presentsizes.now true true false _ _ (le-leb 8192 _ c.if-loadedpins-lt8192.false) (le-leb 8192 _ c.if-presentpins-lt8192.false) (lt-leb 1024 _ c.if-firsts-lt1024.true) refl refl

pub returns-then-loadedsizes-lt1024 : goal.returns-then-loadedsizes-lt1024
returns-then-loadedsizes-lt1024 c =
    let a = c.args in long-is a.loadedpins.now a.presentpins.now a.firsts.now a.loadedsizes.now a.presentsizes.now true true true false _ (le-leb 8192 _ c.if-loadedpins-lt8192.false) (le-leb 8192 _ c.if-presentpins-lt8192.false) (le-leb 1024 _ c.if-firsts-lt1024.false) (lt-leb 1024 _ c.if-loadedsizes-lt1024.true) refl

pub returns : goal.returns
returns c =
    let a = c.args in long-is a.loadedpins.now a.presentpins.now a.firsts.now a.loadedsizes.now a.presentsizes.now true true true true _ (le-leb 8192 _ c.if-loadedpins-lt8192.false) (le-leb 8192 _ c.if-presentpins-lt8192.false) (le-leb 1024 _ c.if-firsts-lt1024.false) (le-leb 1024 _ c.if-loadedsizes-lt1024.false) refl
