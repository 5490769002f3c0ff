-- One move of a walk: the tables moved, the candidates spread, the journal pushed and the kept prefix updated are model's walk_move.
-- Rests on Steps and Kept. Assumes nothing.
use Rattle.std.specs.Prelude.{ℕ, suc, ◌+◌, ◌-◌, ◌<◌, ◌≤◌, ◌≡◌, refl, Bool, true, false, not, ◌&&◌, ◌||◌, cond, List, ◌∷◌, eqb, get_or}
use Rattle.std.proofs.Math.Decide.{ℕ_discrete}
use Rattle.std.proofs.Common.{arith, sym, ap₂, ◌∙◌, true≢false, eq-eqb, ne_eqb}
use Rattle.std.proofs.Math.Path.{ap, subst}
use Rattle.std.proofs.Math.Bool.{and-true, and-false, or-false, or_assoc}
use Rattle.std.proofs.Math.ListN.{length, length-set}
use Rattle.laws.specs.Fold.{any}
use Rattle.laws.specs.Place.{place}
use Rattle.model.specs.Catalogue.{Hypergraph}
use Rattle.model.specs.Measure.{Contraction, above, on_board, is_fixed, may_move, adjacent}
use Rattle.model.specs.Machine.{Move}
use Rattle.model.specs.Search.{Walk, is_kept, worth_of, walk_move}
use Rattle.model.specs.Lent.{journal_of}
use Rattle.guarantees.specs.Walks.{moved}
use Rattle.operations.specs.Pairs.{Pushed, pairs-push}
use Rattle.operations.specs.Tables.{Tables, Sound}
use Rattle.operations.specs.Move.{Open, CanGo, Went, here-board, on-board, own_block, in-range}
use Rattle.search_moves.specs.Marks.{candidate_bit, moved_bit, Covered, near, NetsOk, Spread}
use Rattle.search_moves.specs.Tabled.{near-is, near_on, nets-ok}
use Rattle.walk.specs.Back.{backs-more}
use Rattle.walk.specs.Kept.{worth, heaviest_in, heaviest-is}
use Rattle.walk.specs.Steps.{Locals, locals, At, TakeOk}

-- a candidate after a move, in truth values: it was one or shares a net with the moved vertex, has not moved, is on the board and not fixed
spread-bool : (cand mv bd fx adj eq : Bool) → (adj ≡ true → bd ≡ true)
    → (((cand && not mv && (bd && not fx)) && not eq) || (adj && not (eq || (mv || fx)))) ≡ ((cand || adj) && not (eq || mv) && (bd && not fx))
spread-bool cand mv bd fx adj true f = simp (and-false, or-false)
spread-bool cand true bd fx adj false f = simp (and-false, and-true, or-false)
spread-bool cand false bd true adj false f = simp (and-false, and-true, or-false)
spread-bool cand false true false adj false f = simp and-true
spread-bool cand false false false true false f = absurd (true≢false (sym (f refl)))
spread-bool cand false false false false false f = simp (and-false, and-true, or-false)

eqb-next : (x y v : ℕ) → x + 1 ≡ v → eqb x y ≡ eqb v (y + 1)
eqb-next x y v e = go (ℕ_discrete x y)
  where
    go : Dec (x ≡ y) → eqb x y ≡ eqb v (y + 1)
    go (yes q) = eq-eqb x y q ∙ sym (eq-eqb v (y + 1) (omega arith))
    go (no q) = ne_eqb x y q ∙ sym (ne_eqb v (y + 1) (λ r. q (omega arith)))

-- ---- what the calls of `take` ask, where x is v counted from 0
module _ {T : List ℕ → List ℕ → Tables} {L : Locals} {turn v b : ℕ} (o : TakeOk T L turn v b) (x : ℕ) (e : x ≡ v - 1) where
  pub take_open : Open (T o.aboves o.loaded).blocks (T o.aboves o.loaded).n (T o.aboves o.loaded).k x b
  take_open = rw e o.open-pair

  pub take-goes : CanGo T x b
  take-goes = record { aboves = o.aboves; loaded = o.loaded; goes = record { h = o.h; cs = o.cs; block = o.walk.block; sound = o.at.sound; open-pair = take_open } }

  pub take-nets : NetsOk (T o.aboves o.loaded).bits (T o.aboves o.loaded).pins (T o.aboves o.loaded).firsts (T o.aboves o.loaded).sizes (T o.aboves o.loaded).m x
  take-nets = nets-ok o.at.sound x take_open.u-in

-- ---- the move
module _ {h : Hypergraph} {cs : List Contraction} {w : Walk} {T T' : Tables} {marks vs bs marks' vs' bs' : List ℕ} {tried kept low most heavy tried' kept' low' most' v b : ℕ} (x : ℕ)
    (A : At h cs w T (locals marks vs bs tried kept low most))
    (o : Open T.blocks T.n T.k x b)
    (e : x + 1 ≡ v)
    (few : tried < 1024)
    (qn : T'.n ≡ T.n)
    (g : Went T T' x b)
    (sp : Spread marks marks' x (near T.bits T.pins T.firsts T.sizes x T.m))
    (cov : Covered marks' T'.pins T'.firsts T'.sizes)
    (p : Pushed vs bs tried v (get_or T.blocks x 0) vs' bs' tried')
    (eh : heavy ≡ heaviest_in T'.loads T'.k)
    (ek : kept' ≡ cond (is_kept (worth T'.total heavy) (worth low most)) tried' kept)
    (ew : worth low' most' ≡ cond (is_kept (worth T'.total heavy) (worth low most)) (worth T'.total heavy) (worth low most)) where
  on : on_board h cs v ≡ true
  on = ap (on_board h cs) (sym e) ∙ here-board A.sound x o.u-in o.on

  on-x : above cs (x + 1) ≡ 0
  on-x = on-board A.sound x o.u-in o.on

  own : get_or T.blocks x 0 ≡ w.block v
  own = own_block A.sound x o.u-in ∙ ap w.block e

  sound : Sound h cs (place w.block v b) T'
  sound = subst (λ (y : ℕ). Sound h cs (place w.block y b) T') e (g.sound h cs w.block A.sound)

  small : T.n ≤ 1024
  small = A.sound.follows.room.few-vertices

  spent : (y : ℕ) → y < T.n → moved_bit marks' y ≡ ((eqb v (y + 1) || moved h cs w (y + 1)) || is_fixed h cs (y + 1))
  spent y l =
      sp.moved y (omega (arith, small))
      ∙ ap₂ (λ (s t : Bool). s || t) (eqb-next x y v e) (A.spent y l)
      ∙ sym (or_assoc (eqb v (y + 1)) (moved h cs w (y + 1)) (is_fixed h cs (y + 1)))

  beside : (y : ℕ) → near T.bits T.pins T.firsts T.sizes x T.m y ≡ adjacent h cs v (y + 1)
  beside y = near-is A.sound x y o.u-in on-x ∙ ap (λ (z : ℕ). adjacent h cs z (y + 1)) e

  chosen : (y : ℕ) → y < T.n → candidate_bit marks' y ≡ ((w.candidate (y + 1) || adjacent h cs v (y + 1)) && not (eqb v (y + 1) || moved h cs w (y + 1)) && may_move h cs (y + 1))
  chosen y l =
      sp.marks y (omega (arith, small))
      ∙ ap₂ (λ (s t : Bool). s || t)
      (ap₂ (λ (s t : Bool). s && not t) (A.chosen y l) (eqb-next x y v e))
      (ap₂ (λ (s t : Bool). s && not t) (beside y) (ap₂ (λ (s t : Bool). s || t) (eqb-next x y v e) (A.spent y l)))
      ∙ spread-bool (w.candidate (y + 1)) (moved h cs w (y + 1)) (on_board h cs (y + 1)) (is_fixed h cs (y + 1)) (adjacent h cs v (y + 1)) (eqb v (y + 1)) (λ q. near_on A.sound v (y + 1) q)

  journaled : record { vertex = v; from = w.block v } ∷ w.journal ≡ journal_of vs' bs' tried'
  journaled =
      ap₂ (λ (z : ℕ) (ms : List Move). record { vertex = v; from = z } ∷ ms) (sym own) A.journal-is
      ∙ sym (pairs-push (λ v b. record { vertex = v; from = b }) (omega (arith, A.vertices-fit)) (omega (arith, A.blocks-fit)) p)

  tries : tried' ≡ suc w.tried
  tries = omega (arith, p.len_is, A.tried-is)

  -- the new prefix is worth what the tables say
  now-is : worth T'.total heavy ≡ worth_of h cs (place w.block v b)
  now-is = ap₂ worth sound.total-is (eh ∙ heaviest-is sound)

  keeps : {X : Type 0} {d d' f f' : X} → d ≡ d' → f ≡ f' → cond (is_kept (worth T'.total heavy) (worth low most)) d f ≡ cond (is_kept (worth_of h cs (place w.block v b)) w.worth) d' f'
  keeps {X} {d} {d'} {f} q r =
      ap₂ (λ (t : Bool) (z : X). cond t z f) (ap₂ is_kept now-is A.worth-is) q
      ∙ ap (λ (z : X). cond (is_kept (worth_of h cs (place w.block v b)) w.worth) d' z) r

  least : (t : Bool) → kept ≤ tried → cond t tried' kept ≤ tried'
  least true l = omega arith
  least false l = omega (arith, p.len_is)

  pub take-law : At h cs (walk_move h cs w v b (worth_of h cs (place w.block v b))) T' (locals marks' vs' bs' tried' kept' low' most')
  unfolding walk_move any
  take-law = record {
    sound = sound;
    chosen = λ y l. chosen y (omega arith);
    spent = λ y l. spent y (omega arith);
    covered = cov;
    journal-is = journaled;
    tried-is = tries;
    kept-is = ek ∙ keeps tries A.kept-is;
    worth-is = ew ∙ keeps now-is A.worth-is;
    kept-to = omega (arith, ek, least (is_kept (worth T'.total heavy) (worth low most)) A.kept-to);
    backs = backs-more h cs w.block w.journal v b (omega (arith, o.u-in, A.sound.follows.says.all-vertices)) on
        (let r = in-range A.sound x o.u-in (here-board A.sound x o.u-in o.on) in
        subst (λ (z : ℕ). (1 ≤ w.block z) × (w.block z ≤ h.blocks)) e (r.0, omega (arith, r.1, A.sound.follows.says.all_blocks)))
        (λ q. o.away (own ∙ q)) A.backs;
    marks-fit = sp.len ∙ A.marks-fit;
    vertices-fit = ap length p.xs-are ∙ length-set vs tried v ∙ A.vertices-fit;
    blocks-fit = ap length p.ys-are ∙ length-set bs tried (get_or T.blocks x 0) ∙ A.blocks-fit;
  }
