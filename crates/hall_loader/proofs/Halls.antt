-- A hall's file: its first line, its catalogues, 24 and its call lines joined. Rests on Weighing and on hall_lines' laws of a hall's lines.
use Prim.Native.Nat.{ℕ, ◌+◌, ◌-◌, ◌≤◌, ◌<◌}
use native.Mathlib.Omega.{arith}
use mathlib.Core.Path.{◌≡◌, refl, ap, sym, subst, ◌∙◌}
use mathlib.Core.Bool.{Bool, true, false, cond}
use mathlib.Core.List.{List, []}
use borrow.Author.Tests.{lt-ltb, le-ltb}
use lib.ListN.{length}
use lib.Seq.{slice, take-length}
use Rattle.model.specs.Grammar.{Book, unread, fields, parts}
use Rattle.model.specs.HallText.{HallReading, in_catalogue, hall_unread, in_calls, hall_stopped, hall_line, hall_ending, hall_lines, parse_hall}
use Rattle.text.specs.Field.{FirstAt}
use Rattle.std.specs.Prelude.{Result, Ok, Err}
use Rattle.refusal.specs.declared.Refusal.{Refusal}
use Rattle.refusal.specs.declared.Refusal.TheVariants.{FileTooLong, BadlyWritten, DraftsAboveLimit}
use Rattle.refusal.specs.declared.Refused.{Refused}
use Rattle.refusal.specs.Number.{number_of, refused_at}
use Rattle.refusal.proofs.Results.{err-ok, ok-ok}
use Rattle.loader.specs.declared.Sizes.{Sizes}
use Rattle.hall_lines.specs.Heading.{hall_book, announcing, Announced, FirstRead}
use Rattle.hall_lines.specs.LedTable.{led_seen, LedCallsRead}
use Rattle.hall_lines.specs.declared.First.{First}
use Rattle.hall_lines.proofs.LedTurns.{hall-stopped, hall-turn, hall-stop, hall-unended}
use Rattle.hall_loader.specs.Sets.{Sets}
use Rattle.hall_loader.specs.Books.{books_to, catalogues_seen, CataloguesLoaded}
use Rattle.hall_loader.specs.Drafts.{Light, drafts_above}
use Rattle.hall_loader.specs.HallFile.{after_books, CallsLoaded, AcceptsHall, BodyLoads, HallLoads}
use Rattle.hall_loader.specs.declared.Catalogues.{Catalogues}
use Rattle.hall_loader.specs.declared.HallLoaded.{HallLoaded}
use Rattle.hall_loader.proofs.Weighing.{over-is}

-- ---- what follows the catalogues
module _ (s : List ℕ) (at n count limit : ℕ) (zs : List Sizes) (w d : List (List ℕ)) (calls ops : List ℕ) where
  pub drafts-over : true ≡ drafts_above count limit zs w d → CallsLoaded s at n count limit zs (Err (refused_at DraftsAboveLimit (n - 1))) w d calls ops
  drafts-over e = record {
    says = λ books. sym (ap (λ (t : Bool). hall_lines n (cond t (hall_stopped 24 (n - 1)) (in_calls (hall_book count limit books []))) (parts 10 (slice at (length s) s))) (sym e)
        ∙ hall-stopped n 24 (n - 1) (parts 10 (slice at (length s) s)));
    known = λ c z. err-ok z;
  }

  -- the call lines
  pub drafts-below : false ≡ drafts_above count limit zs w d → (r : Result ℕ Refused) → LedCallsRead count s at n r calls ops → CallsLoaded s at n count limit zs r w d calls ops
  drafts-below below r read = record {
    says = λ books.
        as-led books r
        ∙ read.says limit books
        ∙ ap (λ (t : Bool). hall_lines n (cond t (hall_stopped 24 (n - 1)) (in_calls (hall_book count limit books []))) (parts 10 (slice at (length s) s))) below;
    known = read.known;
  }
    where
      as-led : (books : List Book) (r : Result ℕ Refused) → after_books count limit books r calls ops ≡ led_seen count limit books r calls ops
      as-led books (Ok c) = refl
      as-led books (Err e) = refl

-- ---- what follows the first line
module _ (s : List ℕ) (at : ℕ) (first : First) (H₀ H : Sets) (calls ops : List ℕ) (announced : Announced first.catalogues first.limit) (r : Result Catalogues Refused) (loads : CataloguesLoaded first.catalogues s at r H₀ H) where
  abbrev count : ℕ
  count = first.catalogues

  abbrev limit : ℕ
  limit = first.limit

  pub body-cut : (q : Refused) → r ≡ Err q → BodyLoads s at count limit (Err q) H₀ H calls ops
  body-cut q e = record {
    estimated = loads.estimated;
    says = ap (λ (y : Result Catalogues Refused). catalogues_seen count limit s loads.estimated y H) (sym e) ∙ loads.says limit;
    accepts = λ a z. err-ok z;
  }

  module _ (a : Catalogues) (is : r ≡ Ok a) (light : Light count a.sizes H.weights H.blocks) (y : Result ℕ Refused) (goes : CallsLoaded s a.end a.line count limit a.sizes y H.weights H.blocks calls ops) where
    abbrev books : List Book
    books = books_to loads.estimated a.sizes H count

    on : (x : Result ℕ Refused) → y ≡ x → after_books count limit books x calls ops ≡ hall_lines 2 (in_catalogue (hall_book count limit [] []) unread) (parts 10 (slice at (length s) s))
    on x e =
        ap (λ (x : Result ℕ Refused). after_books count limit books x calls ops) (sym e)
        ∙ goes.says books
        ∙ ap (λ (t : Bool). hall_lines a.line (cond t (hall_stopped 24 (a.line - 1)) (in_calls (hall_book count limit books []))) (parts 10 (slice a.end (length s) s))) (sym (over-is loads.estimated a.sizes H count limit light))
        ∙ ap (λ (y : Result Catalogues Refused). catalogues_seen count limit s loads.estimated y H) (sym is)
        ∙ loads.says limit

    pub body-stop : (q : Refused) → y ≡ Err q → BodyLoads s at count limit (Err q) H₀ H calls ops
    body-stop q e = record { estimated = loads.estimated; says = on (Err q) e; accepts = λ a z. err-ok z }

    pub body-past : (c : ℕ) → y ≡ Ok c → BodyLoads s at count limit (Ok (record { count = count; limit = limit; calls = c; sizes = a.sizes })) H₀ H calls ops
    body-past c e = record {
      estimated = loads.estimated;
      says = on (Ok c) e;
      accepts = λ x z. subst (λ (v : HallLoaded). AcceptsHall loads.estimated v.count v.limit v.calls v.sizes H₀ H calls ops) (ok-ok z)
          (record { announced = announced; sizes-long = loads.sizes-long a is; catalogues = loads.accepts a is; calls-known = goes.known c e; kept = loads.kept });
    }

-- ---- the file
module _ (s : List ℕ) (H₀ H : Sets) (calls ops : List ℕ) where
  stops : (q : Refused) → hall_stopped (number_of q.refusal) q.line ≡ parse_hall s → HallLoads s (Err q) H₀ H calls ops
  stops q e = record { estimated = λ c. false; says = e; accepts = λ a z. err-ok z }

  pub file-long : 60000 < length s → HallLoads s (Err (refused_at FileTooLong 0)) H₀ H calls ops
  unfolding parse_hall
  file-long l = stops (refused_at FileTooLong 0) (rw (lt-ltb 60000 (length s) l))

  module _ (short : length s ≤ 60000) (e : ℕ) (found : FirstAt s 0 (length s) 10 e) where
    parsed : parse_hall s ≡ hall_lines 1 hall_unread (parts 10 (slice 0 (length s) s))
    unfolding parse_hall
    parsed = rw (le-ltb 60000 (length s) short, take-length)

    pub file-unended : e ≡ length s → HallLoads s (Err (refused_at BadlyWritten 1)) H₀ H calls ops
    unfolding hall_ending
    file-unended last = stops (refused_at BadlyWritten 1) (sym (parsed ∙ hall-unended s (length s) 0 e 1 (omega arith) (omega arith) found hall_unread last))

    module _ (more : e < length s) (r : Result First Refusal) (read : FirstRead (fields (slice 0 e s)) r) where
      heads : hall_line 1 hall_unread (slice 0 e s) ≡ announcing 1 r
      unfolding hall_line
      heads = sym (read.says 1)

      pub head-refused : (q : Refusal) → r ≡ Err q → HallLoads s (Err (refused_at q 1)) H₀ H calls ops
      head-refused q is = stops (refused_at q 1) (sym (parsed ∙ hall-stop s (length s) 0 e 1 (omega arith) (omega arith) found hall_unread (number_of q) 1 more (heads ∙ ap (announcing 1) is)))

      pub file-loads : (a : First) → r ≡ Ok a → (y : Result HallLoaded Refused) → BodyLoads s (e + 1) a.catalogues a.limit y H₀ H calls ops → HallLoads s y H₀ H calls ops
      file-loads a is y body = record {
        estimated = body.estimated;
        says = body.says
            ∙ sym (parsed
            ∙ hall-turn s (length s) 0 e 1 (omega arith) (omega arith) found hall_unread more
            ∙ ap (λ (x : HallReading). hall_lines (1 + 1) x (parts 10 (slice (e + 1) (length s) s))) (heads ∙ ap (announcing 1) is));
        accepts = body.accepts;
      }
