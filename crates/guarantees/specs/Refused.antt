-- A refused call leaves the machine's state (refused-same) and the sale (refused-sale), so a list of calls and the same list without its refused calls
-- end in one sale (after-accepted), and what the entries promise leaves them no choice: a refused call changes nothing in lent memory
-- (refused-change-nothing). Rests on Determined, and on Order's reading of the list's entry. Assumes nothing.
use Rattle.std.specs.Prelude.{ℕ, zero, suc, ◌≤◌, ◌≡◌, refl, Bool, true, List, [], ◌∷◌, ◌++◌, length, take, drop}
use Rattle.std.proofs.Common.{arith, sym, ap, ◌∙◌, subst}
use Rattle.std.proofs.Math.Seq.{take-append_seam, drop-append_seam}
use Rattle.model.specs.Catalogue.{Limits, Hypergraph, capacities}
use Rattle.model.specs.Measure.{Contraction}
use Rattle.model.specs.Machine.{Call, call_j, call_s, call_m, call_b, call_w, call_p, call_a, Move, State, Step, settle, refuses_j, does_j, refuses_m, does_m, does_s, does_b}
use Rattle.model.specs.Search.{call_under, refuses_w, does_w, does_p, refuses_a, does_a}
use Rattle.model.specs.Sale.{Request, runs, call_x, call_n, Sale, Turn, Space, space_of, opened, refuses_x, refuses_n, turned, does_x, does_n, ran, turn_under, turn, total_of}
use Rattle.model.specs.Grammar.{Reading, Book, reading, parse}
use Rattle.model.specs.Report.{refusal, closing}
use Rattle.model.specs.Engine.{after, answers, draft_total, run, outcome}
use Rattle.model.specs.Memory.{Tables, Memory, long_memory, Holds, Written, Worked, Served, Serves}
use Rattle.model.specs.Demand.{Standing, Stands, reached_by}
use Rattle.model.specs.Promises.{Demand3}
use Rattle.model.specs.ListEntry.{list_calls}
use Rattle.model.specs.Refused.{unless, accepted_from, accepted_calls, SameEnd, closing_in, SameSale, RefusedChangeNothing}
use Rattle.guarantees.specs.Determined.{holds_same}
use Rattle.guarantees.specs.Order.{listed_in}

-- ---- the machine
pub settle-refused : (q : ℕ) (s : State) (t : Step) → refusal t.answer ≡ 0 → 1 ≤ refusal (settle q s t).answer → (settle q s t).state ≡ s
unfolding settle
settle-refused zero s t e k = absurd (omega arith)
settle-refused (suc q) s t e k = refl

split-kept : (s : State) (cs : List Contraction) → 1 ≤ refusal (does_s s cs).answer → (does_s s cs).state ≡ s
unfolding does_s refusal
split-kept s [] k = refl
split-kept s (c ∷ cs) k = absurd (omega arith)

back-kept : (h : Hypergraph) (s : State) (ms : List Move) → 1 ≤ refusal (does_b h s ms).answer → (does_b h s ms).state ≡ s
unfolding does_b refusal
back-kept h s [] k = refl
back-kept h s (m ∷ ms) k = absurd (omega arith)

-- under any ceiling
pub refused-same : (h : Hypergraph) (ceiling : ℕ → ℕ) (s : State) (c : Call) → 1 ≤ refusal (call_under h ceiling s c).answer → (call_under h ceiling s c).state ≡ s
unfolding call_under does_j does_m does_w does_p does_a refusal
refused-same h ceiling s (call_j u v) k = settle-refused (refuses_j h s u v) s (does_j h s u v) refl k
refused-same h ceiling s call_s k = split-kept s s.stack k
refused-same h ceiling s (call_m v t) k = settle-refused (refuses_m h ceiling s v t) s (does_m h s v t) refl k
refused-same h ceiling s call_b k = back-kept h s s.journal k
refused-same h ceiling s (call_w u v) k = settle-refused (refuses_w h s u v) s (does_w h ceiling s u v) refl k
refused-same h ceiling s call_p k = absurd (omega arith)
refused-same h ceiling s call_a k = settle-refused (refuses_a h s s.stack) s (does_a h ceiling s) refl k

-- ---- the sale
pub change-refused : (q : ℕ) (a : Sale) (t : Turn) → refusal t.answer ≡ 0 → 1 ≤ refusal (turned q a t).answer → (turned q a t).sale ≡ a
unfolding turned
change-refused zero a t e k = absurd (omega arith)
change-refused (suc q) a t e k = refl

pub refused-sale : (space : Space) (ceiling : ℕ → ℕ) (a : Sale) (c : Request) → 1 ≤ refusal (turn_under space ceiling a c).answer → (turn_under space ceiling a c).sale ≡ a
unfolding turn_under ran does_x does_n refusal
refused-sale space ceiling a (runs c) k = ap (λ (s : State). record { graph = a.graph; free = a.free; changed = a.changed; state = s }) (refused-same a.graph ceiling a.state c k)
refused-sale space ceiling a (call_x v) k = change-refused (refuses_x a.graph a.state v) a (does_x a v) refl k
refused-sale space ceiling a (call_n bales session buyers) k = change-refused (refuses_n space a.graph ceiling a.state bales session buyers) a (does_n a bales session buyers) refl k

-- as a call line of a sale by itself
turn-refused : (limits : Limits) (a : Sale) (c : Request) → 1 ≤ refusal (turn limits a c).answer → (turn limits a c).sale ≡ a
turn-refused limits a c k = refused-sale (space_of limits) (capacities a.graph) a c k

-- ---- a list without its refused calls
accepted-step : (limits : Limits) (a : Sale) (c : Request) (rest : List Request) (z : Sale) → after limits (turn limits a c).sale rest ≡ z → (q : ℕ) → refusal (turn limits a c).answer ≡ q → after limits a (unless q c rest) ≡ z
unfolding after unless
accepted-step limits a c rest z ih zero e = ih
accepted-step limits a c rest z ih (suc q) e = ap (λ (y : Sale). after limits y rest) (sym (turn-refused limits a c (omega (arith, e)))) ∙ ih

pub after-accepted : (limits : Limits) (a : Sale) (cs : List Request) → after limits a (accepted_from limits a cs) ≡ after limits a cs
unfolding after accepted_from
after-accepted limits a [] = refl
after-accepted limits a (c ∷ cs) = accepted-step limits a c (accepted_from limits (turn limits a c).sale cs) (after limits (turn limits a c).sale cs) (after-accepted limits (turn limits a c).sale cs) (refusal (turn limits a c).answer) refl

-- two lists that differ in refused calls alone end in one sale
pub after_same : (limits : Limits) (h : Hypergraph) (cs cs' : List Request) → accepted_calls limits h cs' ≡ accepted_calls limits h cs → reached_by limits h cs' ≡ reached_by limits h cs
after_same limits h cs cs' e = sym (after-accepted limits (opened h) cs') ∙ ap (after limits (opened h)) e ∙ after-accepted limits (opened h) cs

-- ---- what stands is told by the sale
pub stands_same : {old : Tables} {a : Sale} {x y : Standing} → Stands old a x → Stands old a y → x ≡ y
stands_same p q = λ i. record {
  tables = holds_same p.tables q.tables i;
  stack = (p.joins ∙ sym q.joins) i;
  journal = (p.moves ∙ sym q.moves) i;
}

refused-stands : (limits : Limits) (old : Tables) (a : Sale) (c : Request) (x y : Standing) → Stands old a x → Stands old (turn limits a c).sale y → 1 ≤ refusal (turn limits a c).answer → y ≡ x
refused-stands limits old a c x y p q k = stands_same (subst (λ (z : Sale). Stands old z y) (turn-refused limits a c k) q) p

-- ---- the list's entry
refused-lists : {limits : Limits} {h : Hypergraph} {calls : List Request} {old : Tables} {left left' : Standing} {lines lines' : List ℕ} {total total' : ℕ}
    → Demand3 limits h calls old left lines total → Demand3 limits h (accepted_calls limits h calls) old left' lines' total' → SameEnd left left' total total'
refused-lists {limits = limits} {h = h} {calls = calls} {old = old} {left' = left'} p q = record {
  standing = stands_same (subst (λ (a : Sale). Stands old a left') (after-accepted limits (opened h) calls) q.stands) p.stands;
  totals = q.total-is ∙ ap total_of (after-accepted limits (opened h) calls) ∙ sym p.total-is;
}

-- ---- the entries for files
-- an accepted file in memory that is long enough
worked-in : (limits : Limits) (file : List ℕ) (k : Book) (old new : Memory) (code written : ℕ) → parse limits file ≡ reading k → long_memory limits old ≡ true
    → Serves limits file old new code written → Worked limits (reading k) old new code written
worked-in limits file k old new code written p l s =
    subst (λ (r : Reading). Worked limits r old new code written) p
    (subst (λ (b : Bool). Served limits b (parse limits file) old new code written) l s)

-- what is written past the answers is the closing report
abbrev closing_of : ℕ → Sale → List ℕ
closing_of draft a = closing draft a.graph a.state

closing-in : (limits : Limits) (h : Hypergraph) (calls : List Request) (old new : List ℕ) (written : ℕ) → Written (run limits h calls) old new written → closing_in limits h calls new written ≡ closing_of (draft_total h) (reached_by limits h calls)
unfolding run
closing-in limits h calls old new written w =
    let lines : List ℕ = answers limits (opened h) calls in
    let end : List ℕ = closing_of (draft_total h) (reached_by limits h calls) in
    ap (drop (length lines)) (ap (take written) w.output ∙ ap (λ (n : ℕ). take n ((lines ++ end) ++ drop written old)) w.bytes ∙ take-append_seam (lines ++ end) (drop written old))
    ∙ drop-append_seam lines end

refused-files : (limits : Limits) (h : Hypergraph) (k k' : Book) (old new new' : Memory) (code written code' written' : ℕ) → k.graph ≡ h → k'.graph ≡ h → accepted_calls limits h k'.calls ≡ accepted_calls limits h k.calls
    → Worked limits (reading k) old new code written → Worked limits (reading k') old new' code' written' → SameSale limits h k.calls k'.calls new new' written written'
unfolding outcome
refused-files limits h k k' old new new' code written code' written' e e' same p q =
    let end : reached_by limits h k'.calls ≡ reached_by limits h k.calls = after_same limits h k.calls k'.calls same in
    let t : Holds (reached_by limits h k.calls) old.tables new.tables = subst (λ (g : Hypergraph). Holds (reached_by limits g k.calls) old.tables new.tables) e p.tables in
    let t' : Holds (reached_by limits h k'.calls) old.tables new'.tables = subst (λ (g : Hypergraph). Holds (reached_by limits g k'.calls) old.tables new'.tables) e' q.tables in
    let w : Written (run limits h k.calls) old.output new.output written = subst (λ (g : Hypergraph). Written (run limits g k.calls) old.output new.output written) e p.output in
    let w' : Written (run limits h k'.calls) old.output new'.output written' = subst (λ (g : Hypergraph). Written (run limits g k'.calls) old.output new'.output written') e' q.output in
    record {
      tables = holds_same (subst (λ (a : Sale). Holds a old.tables new'.tables) end t') t;
      closing = closing-in limits h k'.calls old.output new'.output written' w' ∙ ap (closing_of (draft_total h)) end ∙ sym (closing-in limits h k.calls old.output new.output written w);
    }

-- ---- the statement
pub refused-change-nothing : (limits : Limits) → RefusedChangeNothing limits
refused-change-nothing limits = record {
  call-leaves = refused-stands limits;
  lists = λ file list list' operands operands' k old new new' r r' p l z z' q a b. refused-lists
      (listed_in limits file list operands k old new r (list_calls list operands) p l z refl a).demand
      (listed_in limits file list' operands' k old new' r' (accepted_calls limits k.graph (list_calls list operands)) p l z' q b).demand;
  files = λ file file' k k' old new new' code written code' written' p p' l e same a b. refused-files limits k.graph k k' old new new' code written code' written' refl e same
      (worked-in limits file k old new code written p l a)
      (worked-in limits file' k' old new' code' written' p' l b);
}
