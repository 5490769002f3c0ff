-- `spaced::put_edge` meets its contract: the word, the weight, the vertices and the line feed, one after another.
use Rattle.std.proofs.Common.{arith}
use Rattle.spaced.proofs.Edges.{values_at, lead-numbers, edge-text, word_room, field_room, pins-room, feed-room, edge-written}
use Rattle.spaced.proofs.put_edge.Goals as goal

pub put_word-a-requires : goal.put_word-a-requires
put_word-a-requires c =
    let a = c.args in
    let x = c.unwrap-x.result in
    let lead = rw c.unwrap-x.ensures at c.read_lead.ensures in
    let t = edge-text a.s.now a.at a.end a.weighted x.weight x.first lead in
    word_room a.out.now _ a.p x.weight (values_at a.s.now x.first a.end) c.requires.3 t

pub put_field-b-requires : goal.put_field-b-requires
put_field-b-requires c =
    let a = c.args in
    let x = c.unwrap-x.result in
    let lead = rw c.unwrap-x.ensures at c.read_lead.ensures in
    let t = edge-text a.s.now a.at a.end a.weighted x.weight x.first lead in
    field_room a.out.now _ a.p x.weight (values_at a.s.now x.first a.end) c.requires.3 t c.put_word-a.ensures

pub put_pins-c-requires : goal.put_pins-c-requires
put_pins-c-requires c =
    let a = c.args in
    let x = c.unwrap-x.result in
    let lead = rw c.unwrap-x.ensures at c.read_lead.ensures in
    let t = edge-text a.s.now a.at a.end a.weighted x.weight x.first lead in
    (lead.high, omega arith, lead-numbers a.s.now a.at a.end a.weighted x.weight x.first lead c.requires.2, pins-room a.out.now _ a.p x.weight (values_at a.s.now x.first a.end) c.requires.3 t c.put_word-a.ensures c.put_field-b.ensures)

pub bounds-out-c : goal.bounds-out-c
bounds-out-c c =
    let a = c.args in
    let x = c.unwrap-x.result in
    let lead = rw c.unwrap-x.ensures at c.read_lead.ensures in
    let t = edge-text a.s.now a.at a.end a.weighted x.weight x.first lead in
    feed-room a.out.now _ a.p x.weight (values_at a.s.now x.first a.end) c.requires.3 t c.put_word-a.ensures c.put_field-b.ensures c.put_pins-c.ensures

pub overflow_add-result : goal.overflow_add-result
overflow_add-result c =
    let a = c.args in
    let x = c.unwrap-x.result in
    let lead = rw c.unwrap-x.ensures at c.read_lead.ensures in
    let t = edge-text a.s.now a.at a.end a.weighted x.weight x.first lead in
    let room = feed-room a.out.now _ a.p x.weight (values_at a.s.now x.first a.end) c.requires.3 t c.put_word-a.ensures c.put_field-b.ensures c.put_pins-c.ensures in
    omega arith

pub returns : goal.returns
returns c =
    let a = c.args in
    let x = c.unwrap-x.result in
    let lead = rw c.unwrap-x.ensures at c.read_lead.ensures in
    let t = edge-text a.s.now a.at a.end a.weighted x.weight x.first lead in
    edge-written a.out.now _ a.p x.weight (values_at a.s.now x.first a.end) c.requires.3 t c.put_word-a.ensures c.put_field-b.ensures c.put_pins-c.ensures
