-- What one entry accepts, an entry with wider limits reads alike (wider-reads), and answers alike as long as no N is refused by 23 at the first and not at
-- the second: the same sale after its calls, so the same entries of the tables (wider-after), and the same report (wider-report). Rests on model's Engine.
-- Assumes nothing.
use Prim.Native.Nat.{ℕ, zero, suc, ◌+◌, ◌≤◌}
use Rattle.std.proofs.Common.{arith, ap₂, ◌∙◌, true≢false, leb-true, leb-false, le-leb}
use Rattle.std.specs.Prelude.{◌≡◌, ◌&&◌, ◌||◌, ◌⊎◌, drop}
use Rattle.std.proofs.Math.Path.{refl, sym, ap}
use Rattle.std.proofs.Math.Bool.{Bool, true, false, not, cond}
use mathlib.Core.List.{List, [], ◌∷◌, ◌++◌}
use Rattle.std.proofs.Math.Logic.{inl, inr}
use Rattle.std.proofs.Math.Dec.{eqb, leb, ltb}
use Rattle.std.proofs.Math.ListN.{length}
use Rattle.laws.specs.Fold.{any, all}
use Rattle.laws.specs.Choice.{and_left, and_right}
use Rattle.model.specs.Catalogue.{Limits, Hypergraph, vertices, is_vertex, is_block, is_net, capacities}
use Rattle.model.specs.Measure.{block_weight}
use Rattle.model.specs.Sale.{Request, runs, call_x, call_n, Sale, Turn, opened, space_of, lots_in, marks_in, joins_stand, named_twice, refuses_n, turned, does_n, turn_under, turn}
use Rattle.model.specs.Report.{refusal, answer_row, closing}
use Rattle.model.specs.Engine.{after, answers, run, outcome, engine, draft_total}
use Rattle.model.specs.Grammar.{Fields, at, value, is_line, ends_in_k, before_k, lot_line, Marking, marked, wrong, mark, marking, net_read, buy_line, call_line, fields, is_line_of, within, Book, Reading, unread, reading, stopped, sale_line, line, ending, lines, parts, parse}

-- once turned down, a file stays so
stays : (limits : Limits) (n q m : ℕ) (ls : List (List ℕ)) → lines limits n (stopped q m) ls ≡ stopped q m
unfolding lines line ending
stays limits n q m [] = refl
stays limits n q m (l ∷ []) = refl
stays limits n q m (l ∷ (l' ∷ ls)) = stays limits (suc n) q m (l' ∷ ls)

-- nothing accepted is turned down
not-both : {q m : ℕ} {k : Book} → stopped q m ≡ reading k → ⊥
not-both e =
    let apart : ◌≡◌ {A = ℕ} 0 1 = ap kind e in
    omega (arith, apart)
  where
    kind : Reading → ℕ
    kind unread = 2
    kind (stopped q m) = 0
    kind (reading k) = 1

both : (x y : Bool) → x ≡ true → y ≡ true → (x && y) ≡ true
both x y e f = ap (λ (b : Bool). b && y) e ∙ f

module _ (limits wide : Limits) (lots : limits.vertex_limit ≤ wide.vertex_limit) (sessions : limits.block_limit ≤ wide.block_limit) (buyers : limits.net_limit ≤ wide.net_limit) (marks : limits.pin_limit ≤ wide.pin_limit) where
  below : (low high high' x : ℕ) → high ≤ high' → within low high x ≡ true → within low high' x ≡ true
  below low high high' x l q = both (leb low x) (leb x high') (and_left (leb low x) (leb x high) q) (le-leb x high' (omega (arith, l, leb-true x high (and_right (leb low x) (leb x high) q))))

  abbrev ranges : Limits → Fields → Bool
  ranges l fs = within 1 l.vertex_limit (at fs 1) && within 0 l.net_limit (at fs 2) && within 2 l.block_limit (at fs 3) && within 0 1000 (at fs 4)

  ranges-wide : (fs : Fields) → ranges limits fs ≡ true → ranges wide fs ≡ true
  ranges-wide fs q =
      let d : Bool = within 0 1000 (at fs 4) in
      let q2 = and_left _ d q in
      let q1 = and_left _ (within 2 limits.block_limit (at fs 3)) q2 in
      both _ d
      (both _ (within 2 wide.block_limit (at fs 3))
      (both (within 1 wide.vertex_limit (at fs 1)) (within 0 wide.net_limit (at fs 2)) (below 1 limits.vertex_limit wide.vertex_limit (at fs 1) lots (and_left _ (within 0 limits.net_limit (at fs 2)) q1))
      (below 0 limits.net_limit wide.net_limit (at fs 2) buyers (and_right (within 1 limits.vertex_limit (at fs 1)) _ q1)))
      (below 2 limits.block_limit wide.block_limit (at fs 3) sessions (and_right (within 1 limits.vertex_limit (at fs 1) && within 0 limits.net_limit (at fs 2)) _ q2)))
      (and_right (within 1 limits.vertex_limit (at fs 1) && within 0 limits.net_limit (at fs 2) && within 2 limits.block_limit (at fs 3)) d q)

  -- the first line is the one that goes by the limits
  first-line : (n i : ℕ) (fs : Fields) (ls : List (List ℕ)) (k : Book) → lines wide i (sale_line limits n fs) ls ≡ reading k → lines wide i (sale_line wide n fs) ls ≡ reading k
  unfolding sale_line
  first-line n i fs ls k = go (is_line_of "SALE" 4 fs || is_line_of "EST" 4 fs) (ranges limits fs) (ranges wide fs) _ (ranges-wide fs)
    where
      go : (form r r' : Bool) (book : Reading) → (r ≡ true → r' ≡ true) → lines wide i (cond (not form) (stopped 2 n) (cond (not r) (stopped 3 n) book)) ls ≡ reading k
          → lines wide i (cond (not form) (stopped 2 n) (cond (not r') (stopped 3 n) book)) ls ≡ reading k
      go false r r' book w q = q
      go true false r' book w q = absurd (not-both (sym (stays wide i 3 n ls) ∙ q))
      go true true r' book w q = ap (λ (b : Bool). lines wide i (cond (not b) (stopped 3 n) book) ls) (w refl) ∙ q

  -- ---- the marks: refused as one too many, or read alike
  mark-or : (h : Hypergraph) (m : Marking) (v : ℕ) → (mark limits h m v ≡ wrong 5) ⊎ (mark limits h m v ≡ mark wide h m v)
  unfolding mark
  mark-or h (wrong q) v = inr refl
  mark-or h (marked us i) v = go (leb limits.pin_limit i) refl (leb wide.pin_limit i) refl (not (is_vertex h v)) (any us (λ x. eqb x v))
    where
      more : Marking
      more = marked (us ++ (v ∷ [])) (suc i)

      go : (x : Bool) → leb limits.pin_limit i ≡ x → (y : Bool) → leb wide.pin_limit i ≡ y → (p q : Bool)
          → (cond p (wrong 3) (cond q (wrong 4) (cond x (wrong 5) more)) ≡ wrong 5) ⊎ (cond p (wrong 3) (cond q (wrong 4) (cond x (wrong 5) more)) ≡ cond p (wrong 3) (cond q (wrong 4) (cond y (wrong 5) more)))
      go x e y g true q = inr refl
      go x e y g false true = inr refl
      go true e y g false false = inl refl
      go false e true g false false = absurd (omega (arith, marks, leb-false limits.pin_limit i e, leb-true wide.pin_limit i g))
      go false e false g false false = inr refl

  wrong_stays : (l : Limits) (h : Hypergraph) (q : ℕ) (fs : Fields) → marking l h (wrong q) fs ≡ wrong q
  unfolding marking mark
  wrong_stays l h q [] = refl
  wrong_stays l h q (f ∷ fs) = wrong_stays l h q fs

  marking-or : (h : Hypergraph) (m : Marking) (fs : Fields) → (marking limits h m fs ≡ wrong 5) ⊎ (marking limits h m fs ≡ marking wide h m fs)
  unfolding marking
  marking-or h m [] = inr refl
  marking-or h m (f ∷ fs) = go (mark-or h m (value f)) (marking-or h (mark limits h m (value f)) fs)
    where
      go : (mark limits h m (value f) ≡ wrong 5) ⊎ (mark limits h m (value f) ≡ mark wide h m (value f)) → (marking limits h (mark limits h m (value f)) fs ≡ wrong 5) ⊎ (marking limits h (mark limits h m (value f)) fs ≡ marking wide h (mark limits h m (value f)) fs)
          → (marking limits h (mark limits h m (value f)) fs ≡ wrong 5) ⊎ (marking limits h (mark limits h m (value f)) fs ≡ marking wide h (mark wide h m (value f)) fs)
      go (inl e) r = inl (ap (λ (x : Marking). marking limits h x fs) e ∙ wrong_stays limits h 5 fs)
      go (inr e) (inl r) = inl r
      go (inr e) (inr r) = inr (r ∙ ap (λ (x : Marking). marking wide h x fs) e)

  line-or : (n : ℕ) (b : Book) (l : List ℕ) → (line limits n (reading b) l ≡ stopped 5 n) ⊎ (line limits n (reading b) l ≡ line wide n (reading b) l)
  unfolding line buy_line net_read
  line-or n b l = go (marking-or b.graph (marked [] b.marks) (drop 2 (fields l))) (ltb (vertices b.graph) b.lots) (ltb (length b.graph.nets) b.buyers) (not (is_line "BUY" (fields l) && leb 3 (length (fields l)))) (not (within 1 1000 (at (fields l) 1)))
    where
      one : Marking
      one = marking limits b.graph (marked [] b.marks) (drop 2 (fields l))

      other : Marking
      other = marking wide b.graph (marked [] b.marks) (drop 2 (fields l))

      lot : Reading
      lot = lot_line n b (ends_in_k l) (fields (before_k l))

      call : Reading
      call = call_line n b (fields l)

      whole-line : (t u f r : Bool) → Marking → Reading
      whole-line t u f r m = cond t lot (cond u (cond f (stopped 2 n) (cond r (stopped 3 n) (net_read n b (at (fields l) 1) m))) call)

      go : (one ≡ wrong 5) ⊎ (one ≡ other) → (t u f r : Bool) → (whole-line t u f r one ≡ stopped 5 n) ⊎ (whole-line t u f r one ≡ whole-line t u f r other)
      go (inr e) t u f r = inr (ap (whole-line t u f r) e)
      go (inl e) true u f r = inr refl
      go (inl e) false false f r = inr refl
      go (inl e) false true true r = inr refl
      go (inl e) false true false true = inr refl
      go (inl e) false true false false = inl (ap (net_read n b (at (fields l) 1)) e)

  by-line : (n : ℕ) (b : Book) (l : List ℕ) (ls : List (List ℕ)) (k : Book) → lines wide (suc n) (line limits n (reading b) l) ls ≡ reading k → lines wide (suc n) (line wide n (reading b) l) ls ≡ reading k
  by-line n b l ls k q = go (line-or n b l)
    where
      go : (line limits n (reading b) l ≡ stopped 5 n) ⊎ (line limits n (reading b) l ≡ line wide n (reading b) l) → lines wide (suc n) (line wide n (reading b) l) ls ≡ reading k
      go (inl e) = absurd (not-both (sym (ap (λ (r : Reading). lines wide (suc n) r ls) e ∙ stays wide (suc n) 5 n ls) ∙ q))
      go (inr e) = sym (ap (λ (r : Reading). lines wide (suc n) r ls) e) ∙ q

  wider-lines : (n : ℕ) (r : Reading) (ls : List (List ℕ)) (k : Book) → lines limits n r ls ≡ reading k → lines wide n r ls ≡ reading k
  unfolding lines line
  wider-lines n r [] k q = q
  wider-lines n r (l ∷ []) k q = q
  wider-lines n (stopped c m) (l ∷ (l' ∷ ls)) k q = wider-lines (suc n) (stopped c m) (l' ∷ ls) k q
  wider-lines n (reading b) (l ∷ (l' ∷ ls)) k q = by-line n b l (l' ∷ ls) k (wider-lines (suc n) (line limits n (reading b) l) (l' ∷ ls) k q)
  wider-lines n unread (l ∷ (l' ∷ ls)) k q = first-line n (suc n) (fields l) (l' ∷ ls) k (wider-lines (suc n) (sale_line limits n (fields l)) (l' ∷ ls) k q)

  pub wider-reads : (file : List ℕ) (k : Book) → parse limits file ≡ reading k → parse wide file ≡ reading k
  unfolding parse
  wider-reads file k = go (ltb 60000 (length file))
    where
      go : (b : Bool) → cond b (stopped 1 0) (lines limits 1 unread (parts 10 file)) ≡ reading k → cond b (stopped 1 0) (lines wide 1 unread (parts 10 file)) ≡ reading k
      go true q = q
      go false q = wider-lines 1 unread (parts 10 file) k q

  -- ---- what is answered alike
  -- N's refusal, by whether there is no space for it
  abbrev refuses_by : Bool → Bool → Bool → Bool → Bool → ℕ
  refuses_by unknown joined twice none over = cond unknown 9 (cond joined 16 (cond twice 22 (cond none 23 (cond over 14 0))))

  by-space : (unknown joined twice over b b' : Bool) → (b' ≡ true → b ≡ true) → (refuses_by unknown joined twice b over ≡ 23 → refuses_by unknown joined twice b' over ≡ 23)
      → refuses_by unknown joined twice b' over ≡ refuses_by unknown joined twice b over
  by-space true joined twice over b b' f g = refl
  by-space false true twice over b b' f g = refl
  by-space false false true over b b' f g = refl
  by-space false false false over true true f g = refl
  by-space false false false over false false f g = refl
  by-space false false false over true false f g = g refl
  by-space false false false over false true f g = absurd (true≢false (sym (f refl)))

  -- where the wider entry has no space, the other has none
  less-space : (h : Hypergraph) (more : Bool) → (leb wide.vertex_limit (lots_in h) || more) ≡ true → (leb limits.vertex_limit (lots_in h) || more) ≡ true
  less-space h more = go (leb wide.vertex_limit (lots_in h)) refl
    where
      or_right : (x y : Bool) → y ≡ true → (x || y) ≡ true
      or_right true y e = refl
      or_right false y e = e

      go : (b : Bool) → leb wide.vertex_limit (lots_in h) ≡ b → (b || more) ≡ true → (leb limits.vertex_limit (lots_in h) || more) ≡ true
      go true e q = ap (λ (b : Bool). b || more) (le-leb limits.vertex_limit (lots_in h) (omega (arith, lots, leb-true wide.vertex_limit (lots_in h) e)))
      go false e q = or_right (leb limits.vertex_limit (lots_in h)) more q

  -- an N's answer tells its refusal
  tells : (q : ℕ) (a : Sale) (bales session : ℕ) (buyers : List ℕ) → refusal (turned q a (does_n a bales session buyers)).answer ≡ q
  unfolding turned does_n refusal
  tells zero a bales session buyers = refl
  tells (suc q) a bales session buyers = refl

  -- a call line that is refused by 23 at the first entry is so at the wider one
  abbrev pub SameSpace : Sale → Request → Type 0
  SameSpace a c = refusal (turn limits a c).answer ≡ 23 → refusal (turn wide a c).answer ≡ 23

  wider-turn : (a : Sale) (c : Request) → SameSpace a c → turn wide a c ≡ turn limits a c
  unfolding turn_under refuses_n
  wider-turn a (runs c) same = refl
  wider-turn a (call_x v) same = refl
  wider-turn a (call_n bales session buyers) same =
      let h : Hypergraph = a.graph in
      let more : Bool = ltb 8192 (marks_in h + length buyers) in
      let over : Bool = not (leb (block_weight h a.state.stack a.state.block session + bales) (capacities h session)) in
      let unknown : Bool = not (leb 1 bales && leb bales 65535 && is_block h session && all buyers (is_net h)) in
      let refuses : Bool → ℕ = λ b. refuses_by unknown (joins_stand a.state) (named_twice buyers) b over in
      let narrow : Bool = leb limits.vertex_limit (lots_in h) || more in
      let broad : Bool = leb wide.vertex_limit (lots_in h) || more in
      ap (λ (q : ℕ). turned q a (does_n a bales session buyers))
      (by-space unknown (joins_stand a.state) (named_twice buyers) over narrow broad (less-space h more) (λ e. sym (tells (refuses broad) a bales session buyers) ∙ same (tells (refuses narrow) a bales session buyers ∙ e)))

  -- so it is for each call line of a list, from a sale on
  unfoldable pub SameSpaces : Sale → List Request → Type 0
  SameSpaces a [] = Unit {0}
  SameSpaces a (c ∷ cs) = SameSpace a c × SameSpaces (turn limits a c).sale cs

  pub wider-after : (a : Sale) (calls : List Request) → SameSpaces a calls → after wide a calls ≡ after limits a calls
  unfolding SameSpaces after
  wider-after a [] same = refl
  wider-after a (c ∷ cs) same = ap (λ (t : Turn). after wide t.sale cs) (wider-turn a c same.0) ∙ wider-after (turn limits a c).sale cs same.1

  wider-answers : (a : Sale) (calls : List Request) → SameSpaces a calls → answers wide a calls ≡ answers limits a calls
  unfolding SameSpaces answers
  wider-answers a [] same = refl
  wider-answers a (c ∷ cs) same =
      ap (λ (t : Turn). answer_row t.answer ++ answers wide t.sale cs) (wider-turn a c same.0)
      ∙ ap (λ (l : List ℕ). answer_row (turn limits a c).answer ++ l) (wider-answers (turn limits a c).sale cs same.1)

  -- a file that the first entry accepts is answered alike at both
  pub wider-report : (file : List ℕ) (k : Book) → parse limits file ≡ reading k → SameSpaces (opened k.graph) k.calls → engine wide file ≡ engine limits file
  unfolding engine outcome run
  wider-report file k q same =
      let h : Hypergraph = k.graph in
      let ends : Sale → List ℕ = λ a. closing (draft_total h) a.graph a.state in
      ap (outcome wide) (wider-reads file k q)
      ∙ ap (λ (l : List ℕ). record { code = 0; report = l }) (ap₂ ◌++◌ (wider-answers (opened h) k.calls same) (ap ends (wider-after (opened h) k.calls same)))
      ∙ sym (ap (outcome limits) q)
