-- `lines::short_line` meets its contract.
use Rattle.std.proofs.Common.{[], ◌∷◌, arith, sym, ◌∙◌}
use Rattle.std.proofs.Math.Seq.{slice}
use Rattle.model.specs.Grammar.{fields}
use Rattle.text.proofs.Lines.{numbered, line-yes, line-no}
use Rattle.lines.proofs.Asks.{asked-J, asked-S, asked-M, asked-B, asked-W, asked-P, asked-A, asked-X, asked-rest, word-J, word-S, word-M, word-B, word-W, word-P, word-A, word-X}
use Rattle.lines.proofs.short_line.Goals as goal

pub get-requires : goal.get-requires
get-requires c =
    let a = c.args in let x = slice a.at a.end a.s.now in (omega arith, omega arith, numbered (74 ∷ []) (fields x) 2 1 (sym c.form.ensures ∙ c.if-form-eq3.true) (omega arith) (omega arith))

pub get-requires-then-form-eq3 : goal.get-requires-then-form-eq3
get-requires-then-form-eq3 c =
    let a = c.args in let x = slice a.at a.end a.s.now in (omega arith, omega arith, numbered (74 ∷ []) (fields x) 2 2 (sym c.form.ensures ∙ c.if-form-eq3.true) (omega arith) (omega arith))

pub returns-then-form-eq3 : goal.returns-then-form-eq3
returns-then-form-eq3 c =
    let a = c.args in let x = slice a.at a.end a.s.now in rw c.call.ensures (asked-J (fields x) c.get.result c.get-then-form-eq3.result c.get.ensures c.get-then-form-eq3.ensures (line-yes "J" (74 ∷ []) 2 c.form.result x word-J c.form.ensures c.if-form-eq3.true))

pub returns-then-form-eq1 : goal.returns-then-form-eq1
returns-then-form-eq1 c =
    let a = c.args in let x = slice a.at a.end a.s.now in rw c.call-then-form-eq1.ensures (asked-S (fields x) (line-no "J" (74 ∷ []) 2 c.form.result x word-J c.form.ensures c.if-form-eq3.false) (line-yes "S" (83 ∷ []) 0 c.form-2.result x word-S c.form-2.ensures c.if-form-eq1.true))

pub get-requires-then-form-eq3-2 : goal.get-requires-then-form-eq3-2
get-requires-then-form-eq3-2 c =
    let a = c.args in let x = slice a.at a.end a.s.now in (omega arith, omega arith, numbered (77 ∷ []) (fields x) 2 1 (sym c.form-3.ensures ∙ c.if-form-eq3-2.true) (omega arith) (omega arith))

pub get-requires-then-form-eq3-2-2 : goal.get-requires-then-form-eq3-2-2
get-requires-then-form-eq3-2-2 c =
    let a = c.args in let x = slice a.at a.end a.s.now in (omega arith, omega arith, numbered (77 ∷ []) (fields x) 2 2 (sym c.form-3.ensures ∙ c.if-form-eq3-2.true) (omega arith) (omega arith))

pub returns-then-form-eq3-2 : goal.returns-then-form-eq3-2
returns-then-form-eq3-2 c =
    let a = c.args in let x = slice a.at a.end a.s.now in rw c.call-then-form-eq3-2.ensures (asked-M (fields x) (line-no "J" (74 ∷ []) 2 c.form.result x word-J c.form.ensures c.if-form-eq3.false) (line-no "S" (83 ∷ []) 0 c.form-2.result x word-S c.form-2.ensures c.if-form-eq1.false) c.get-then-form-eq3-2.result c.get-then-form-eq3-2-2.result c.get-then-form-eq3-2.ensures c.get-then-form-eq3-2-2.ensures (line-yes "M" (77 ∷ []) 2 c.form-3.result x word-M c.form-3.ensures c.if-form-eq3-2.true))

pub returns-then-form-eq1-2 : goal.returns-then-form-eq1-2
returns-then-form-eq1-2 c =
    let a = c.args in let x = slice a.at a.end a.s.now in rw c.call-then-form-eq1-2.ensures (asked-B (fields x) (line-no "J" (74 ∷ []) 2 c.form.result x word-J c.form.ensures c.if-form-eq3.false) (line-no "S" (83 ∷ []) 0 c.form-2.result x word-S c.form-2.ensures c.if-form-eq1.false) (line-no "M" (77 ∷ []) 2 c.form-3.result x word-M c.form-3.ensures c.if-form-eq3-2.false) (line-yes "B" (66 ∷ []) 0 c.form-4.result x word-B c.form-4.ensures c.if-form-eq1-2.true))

pub get-requires-then-form-eq3-3 : goal.get-requires-then-form-eq3-3
get-requires-then-form-eq3-3 c =
    let a = c.args in let x = slice a.at a.end a.s.now in (omega arith, omega arith, numbered (87 ∷ []) (fields x) 2 1 (sym c.form-5.ensures ∙ c.if-form-eq3-3.true) (omega arith) (omega arith))

pub get-requires-then-form-eq3-3-2 : goal.get-requires-then-form-eq3-3-2
get-requires-then-form-eq3-3-2 c =
    let a = c.args in let x = slice a.at a.end a.s.now in (omega arith, omega arith, numbered (87 ∷ []) (fields x) 2 2 (sym c.form-5.ensures ∙ c.if-form-eq3-3.true) (omega arith) (omega arith))

pub returns-then-form-eq3-3 : goal.returns-then-form-eq3-3
returns-then-form-eq3-3 c =
    let a = c.args in let x = slice a.at a.end a.s.now in rw c.call-then-form-eq3-3.ensures (asked-W (fields x) (line-no "J" (74 ∷ []) 2 c.form.result x word-J c.form.ensures c.if-form-eq3.false) (line-no "S" (83 ∷ []) 0 c.form-2.result x word-S c.form-2.ensures c.if-form-eq1.false) (line-no "M" (77 ∷ []) 2 c.form-3.result x word-M c.form-3.ensures c.if-form-eq3-2.false) (line-no "B" (66 ∷ []) 0 c.form-4.result x word-B c.form-4.ensures c.if-form-eq1-2.false) c.get-then-form-eq3-3.result c.get-then-form-eq3-3-2.result c.get-then-form-eq3-3.ensures c.get-then-form-eq3-3-2.ensures (line-yes "W" (87 ∷ []) 2 c.form-5.result x word-W c.form-5.ensures c.if-form-eq3-3.true))

pub returns-then-form-eq1-3 : goal.returns-then-form-eq1-3
returns-then-form-eq1-3 c =
    let a = c.args in let x = slice a.at a.end a.s.now in rw c.call-then-form-eq1-3.ensures (asked-P (fields x) (line-no "J" (74 ∷ []) 2 c.form.result x word-J c.form.ensures c.if-form-eq3.false) (line-no "S" (83 ∷ []) 0 c.form-2.result x word-S c.form-2.ensures c.if-form-eq1.false) (line-no "M" (77 ∷ []) 2 c.form-3.result x word-M c.form-3.ensures c.if-form-eq3-2.false) (line-no "B" (66 ∷ []) 0 c.form-4.result x word-B c.form-4.ensures c.if-form-eq1-2.false) (line-no "W" (87 ∷ []) 2 c.form-5.result x word-W c.form-5.ensures c.if-form-eq3-3.false) (line-yes "P" (80 ∷ []) 0 c.form-6.result x word-P c.form-6.ensures c.if-form-eq1-3.true))

pub returns-then-form-eq1-4 : goal.returns-then-form-eq1-4
returns-then-form-eq1-4 c =
    let a = c.args in let x = slice a.at a.end a.s.now in rw c.call-then-form-eq1-4.ensures (asked-A (fields x) (line-no "J" (74 ∷ []) 2 c.form.result x word-J c.form.ensures c.if-form-eq3.false) (line-no "S" (83 ∷ []) 0 c.form-2.result x word-S c.form-2.ensures c.if-form-eq1.false) (line-no "M" (77 ∷ []) 2 c.form-3.result x word-M c.form-3.ensures c.if-form-eq3-2.false) (line-no "B" (66 ∷ []) 0 c.form-4.result x word-B c.form-4.ensures c.if-form-eq1-2.false) (line-no "W" (87 ∷ []) 2 c.form-5.result x word-W c.form-5.ensures c.if-form-eq3-3.false) (line-no "P" (80 ∷ []) 0 c.form-6.result x word-P c.form-6.ensures c.if-form-eq1-3.false) (line-yes "A" (65 ∷ []) 0 c.form-7.result x word-A c.form-7.ensures c.if-form-eq1-4.true))

pub get-requires-then-form-eq2 : goal.get-requires-then-form-eq2
get-requires-then-form-eq2 c =
    let a = c.args in let x = slice a.at a.end a.s.now in (omega arith, omega arith, numbered (88 ∷ []) (fields x) 1 1 (sym c.form-8.ensures ∙ c.if-form-eq2.true) (omega arith) (omega arith))

pub returns-then-form-eq2 : goal.returns-then-form-eq2
returns-then-form-eq2 c =
    let a = c.args in let x = slice a.at a.end a.s.now in rw c.call-then-form-eq2.ensures (asked-X (fields x) (line-no "J" (74 ∷ []) 2 c.form.result x word-J c.form.ensures c.if-form-eq3.false) (line-no "S" (83 ∷ []) 0 c.form-2.result x word-S c.form-2.ensures c.if-form-eq1.false) (line-no "M" (77 ∷ []) 2 c.form-3.result x word-M c.form-3.ensures c.if-form-eq3-2.false) (line-no "B" (66 ∷ []) 0 c.form-4.result x word-B c.form-4.ensures c.if-form-eq1-2.false) (line-no "W" (87 ∷ []) 2 c.form-5.result x word-W c.form-5.ensures c.if-form-eq3-3.false) (line-no "P" (80 ∷ []) 0 c.form-6.result x word-P c.form-6.ensures c.if-form-eq1-3.false) (line-no "A" (65 ∷ []) 0 c.form-7.result x word-A c.form-7.ensures c.if-form-eq1-4.false) c.get-then-form-eq2.result c.get-then-form-eq2.ensures (line-yes "X" (88 ∷ []) 1 c.form-8.result x word-X c.form-8.ensures c.if-form-eq2.true))

pub returns : goal.returns
returns c =
    let a = c.args in let x = slice a.at a.end a.s.now in asked-rest (fields x) (line-no "J" (74 ∷ []) 2 c.form.result x word-J c.form.ensures c.if-form-eq3.false) (line-no "S" (83 ∷ []) 0 c.form-2.result x word-S c.form-2.ensures c.if-form-eq1.false) (line-no "M" (77 ∷ []) 2 c.form-3.result x word-M c.form-3.ensures c.if-form-eq3-2.false) (line-no "B" (66 ∷ []) 0 c.form-4.result x word-B c.form-4.ensures c.if-form-eq1-2.false) (line-no "W" (87 ∷ []) 2 c.form-5.result x word-W c.form-5.ensures c.if-form-eq3-3.false) (line-no "P" (80 ∷ []) 0 c.form-6.result x word-P c.form-6.ensures c.if-form-eq1-3.false) (line-no "A" (65 ∷ []) 0 c.form-7.result x word-A c.form-7.ensures c.if-form-eq1-4.false) (line-no "X" (88 ∷ []) 1 c.form-8.result x word-X c.form-8.ensures c.if-form-eq2.false)
