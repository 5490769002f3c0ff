-- A sale's file: its catalogue from the first byte and line 1, and its call lines behind it. Rests on guarantees' Through and on reader's call lines.
use Prim.Native.Nat.{ℕ, ◌+◌, ◌≤◌, ◌<◌}
use mathlib.Core.Path.{◌≡◌, refl, ap, sym, subst, ◌∙◌}
use mathlib.Core.Bool.{Bool, true, false, ◌&&◌}
use mathlib.Core.List.{List, [], ◌∷◌}
use native.Mathlib.Omega.{arith}
use borrow.Author.Tests.{eq-eqb, lt-ltb, le-ltb}
use lib.Dec.{eqb}
use lib.ListN.{length}
use lib.Seq.{slice, take-length}
use Rattle.model.specs.Catalogue.{Limits, vertices}
use Rattle.model.specs.Grammar.{Book, unread, reading, stopped, whole, parts, lines, parse}
use Rattle.model.specs.Through.{through}
use Rattle.model.specs.Lent.{Lists}
use Rattle.guarantees.specs.Through.{onward, lines-through}
use Rattle.text.proofs.Walk.{parts-some}
use Rattle.lines.specs.Line.{book}
use Rattle.reader.specs.Seen.{called, CallsRead}
use Rattle.std.specs.Prelude.{Result, Ok, Err}
use Rattle.refusal.specs.declared.Refusal.TheVariants.{FileTooLong}
use Rattle.refusal.specs.declared.Refused.{Refused}
use Rattle.refusal.specs.Number.{number_of, refused_at}
use Rattle.refusal.proofs.Results.{err-ok, ok-ok}
use Rattle.loader.specs.Tables.{graph, Accepts, CallsKnown, catalogue_seen, LoadsCatalogue, Loads}
use Rattle.loader.specs.declared.Sizes.{Sizes}
use Rattle.loader.specs.declared.LoadedCatalogue.{LoadedCatalogue}
use Rattle.loader.specs.declared.Loaded.{Loaded}

module _ (limits : Limits) (file : List ℕ) (old new : Lists) (nw lo calls ops : List ℕ) where
  stops : (q : Refused) → stopped (number_of q.refusal) q.line ≡ parse limits file → Loads limits file (Err q) old new nw lo calls ops
  stops q e = record { estimated = false; says = e; accepts = λ a y. err-ok y; calls-known = λ a y. err-ok y }

  pub too_long : 60000 < length file → Loads limits file (Err (refused_at FileTooLong 0)) old new nw lo calls ops
  unfolding parse
  too_long l = stops (refused_at FileTooLong 0) (rw (lt-ltb 60000 (length file) l))

  module _ (short : length file ≤ 60000) (r : Result LoadedCatalogue Refused) (loads : LoadsCatalogue limits 1 file 0 r old new nw lo) where
    -- a sale's lines are its catalogue's and those behind it
    apart : parse limits file ≡ onward limits (through limits 1 unread (parts 10 (slice 0 (length file) file)))
    unfolding parse
    apart = rw (le-ltb 60000 (length file) short, take-length) (go (parts 10 file) (parts-some 10 file))
      where
        go : (ps : List (List ℕ)) → (ps ≡ [] → ⊥) → lines limits 1 unread ps ≡ onward limits (through limits 1 unread ps)
        go [] n = absurd (n refl)
        go (l ∷ ls) n = lines-through limits 1 unread l ls

    on : onward limits (catalogue_seen 1 file loads.estimated r new nw lo) ≡ parse limits file
    on = ap (onward limits) loads.says ∙ sym apart

    pub file-fails : (q : Refused) → r ≡ Err q → Loads limits file (Err q) old new nw lo calls ops
    unfolding onward
    file-fails q e = stops q (ap (λ (x : Result LoadedCatalogue Refused). onward limits (catalogue_seen 1 file loads.estimated x new nw lo)) (sym e) ∙ on)

    module _ (y : LoadedCatalogue) (is : r ≡ Ok y) (n : ℕ) (n-is : n ≡ y.sizes.vertices + y.sizes.nets + 2) (c : Result ℕ Refused) (read : CallsRead file y.end n c calls ops) where
      abbrev z : Sizes
      z = y.sizes

      told : Accepts limits z old new nw lo
      told = loads.accepts y is

      abbrev first-book : Book
      first-book = book loads.estimated z.vertices z.nets (graph z new nw lo) z.pins []

      full : whole first-book ≡ true
      full = ap (λ (x : Bool). x && eqb (length (graph z new nw lo).nets) z.nets) (eq-eqb (vertices (graph z new nw lo)) z.vertices told.vertices-are) ∙ eq-eqb (length (graph z new nw lo).nets) z.nets told.nets-are

      all_read : called loads.estimated z.vertices z.nets (graph z new nw lo) z.pins c calls ops ≡ parse limits file
      unfolding onward
      all_read =
          let q : n ≡ 1 + 1 + z.vertices + z.nets = omega arith in
          read.says limits loads.estimated z.vertices z.nets z.pins (graph z new nw lo) full
          ∙ ap (λ (x : ℕ). lines limits x (reading first-book) (parts 10 (slice y.end (length file) file))) q
          ∙ ap (λ (x : Result LoadedCatalogue Refused). onward limits (catalogue_seen 1 file loads.estimated x new nw lo)) (sym is)
          ∙ on

      seen-calls : (d : Result ℕ Refused) → c ≡ d → called loads.estimated z.vertices z.nets (graph z new nw lo) z.pins d calls ops ≡ parse limits file
      seen-calls d e = ap (λ (x : Result ℕ Refused). called loads.estimated z.vertices z.nets (graph z new nw lo) z.pins x calls ops) (sym e) ∙ all_read

      pub calls-fail : (q : Refused) → c ≡ Err q → Loads limits file (Err q) old new nw lo calls ops
      calls-fail q e = stops q (seen-calls (Err q) e)

      pub file-fits : (x : ℕ) → c ≡ Ok x → Loads limits file (Ok (record { sizes = z; calls = x })) old new nw lo calls ops
      file-fits x e = record {
        estimated = loads.estimated;
        says = seen-calls (Ok x) e;
        accepts = λ a q. subst (λ (v : Loaded). Accepts limits v.sizes old new nw lo) (ok-ok q) told;
        calls-known = λ a q. subst (λ (v : Loaded). CallsKnown v.calls calls ops) (ok-ok q) (record { calls-le = (read.known x e).0; known = (read.known x e).1; entries = read.entries x e });
      }
