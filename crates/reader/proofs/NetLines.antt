-- The buyers' lines: none read, one more, all read; where their marks lie. Rests on Lots and Turns.
use Prim.Native.Nat.{ℕ, zero, suc, ◌+◌, ◌-◌, ◌≤◌, ◌<◌}
use mathlib.Core.Path.{◌≡◌, refl, ap, sym, subst, ◌∙◌}
use mathlib.Core.List.{List, [], ◌∷◌, ◌++◌}
use mathlib.Core.Bool.{Bool, true, false, ◌&&◌}
use native.Mathlib.Omega.{arith}
use native.Mathlib.Numerals.{add-one}
use native.Mathlib.Decide.{ℕ_discrete}
use lib.ListN.{length, get_or, set, take, drop, length-append, length-set}
use lib.Seq.{slice, take-take, get_or-set_same, get_or-set_other}
use lib.Dec.{eqb}
use borrow.Author.Tests.{ne_eqb, lt-ltb, le-ltb}
use Rattle.laws.specs.Sum.{sum, sum-zero, sum_step, sum-ext}
use Rattle.model.specs.Catalogue.{Limits, Net, Hypergraph, vertices}
use Rattle.model.specs.Grammar.{Book, Reading, reading, parts, fields, whole, grown, with_net, marked, net_read, buy_line, line}
use Rattle.text.specs.Field.{FirstAt}
use Rattle.reader.proofs.Turns.{through-none, through-on}
use Rattle.refusal.proofs.Results.{err-ok, ok-ok}
use Rattle.reader.proofs.Lots.{partly, partly-on}
use Rattle.lines.specs.Line.{book, Past}
use Rattle.lines.specs.Mark.{Stamped, Fresh, buy_seen, BuyRead}
use Rattle.model.specs.Through.{through}
use Rattle.guarantees.specs.Through.{through-stopped}
use Rattle.reader.specs.Buyers.{Laid, nets_of, with_nets, BuysRead, BuysReady}
use Rattle.std.specs.Prelude.{Result, Ok, Err}
use Rattle.refusal.specs.declared.Refusal.{Refusal}
use Rattle.refusal.specs.declared.Refusal.TheVariants.{BadlyWritten}
use Rattle.refusal.specs.Number.{number_of, refused_at}
use Rattle.lines.specs.declared.Buyer.{Buyer}
use Rattle.reader.specs.declared.Nets.{Nets}

pub nets-length : (j : ℕ) (w f c marks : List ℕ) → length (nets_of j w f c marks) ≡ j
unfolding nets_of
nets-length zero w f c marks = refl
nets-length (suc j) w f c marks = length-append (nets_of j w f c marks) _ ∙ omega (arith, nets-length j w f c marks)

slice-keep : (a b m : ℕ) (l l' : List ℕ) → b ≤ m → take m l' ≡ take m l → slice a b l' ≡ slice a b l
slice-keep a b m l l' le e = ap (drop a) (sym (take-take b m l' le) ∙ ap (take b) e ∙ take-take b m l le)

module _ (m : ℕ) (w f c marks w' f' c' marks' : List ℕ) (keep : take m marks' ≡ take m marks) where
  nets-frame : (j : ℕ) → ((x : ℕ) → x < j → get_or w' x 0 ≡ get_or w x 0) → ((x : ℕ) → x < j → get_or f' x 0 ≡ get_or f x 0) → ((x : ℕ) → x < j → get_or c' x 0 ≡ get_or c x 0) → ((x : ℕ) → x < j → get_or f x 0 + get_or c x 0 ≤ m)
      → nets_of j w' f' c' marks' ≡ nets_of j w f c marks
  unfolding nets_of
  nets-frame zero p q r u = refl
  nets-frame (suc j) p q r u =
      rw (nets-frame j (λ x l. p x (omega arith)) (λ x l. q x (omega arith)) (λ x l. r x (omega arith)) (λ x l. u x (omega arith)), p j (omega arith), q j (omega arith), r j (omega arith), slice-keep (get_or f j 0) (get_or f j 0 + get_or c j 0) m marks marks' (u j (omega arith)) keep)

module _ (j m e x : ℕ) (w f c marks marks' : List ℕ) (keep : take m marks' ≡ take m marks) (le : m ≤ e) (wl : j < length w) (fl : j < length f) (cl : j < length c) (inside : (x : ℕ) → x < j → get_or f x 0 + get_or c x 0 ≤ m) where
  other : (l : List ℕ) (v : ℕ) (y : ℕ) → y < j → get_or (set l j v) y 0 ≡ get_or l y 0
  other l v y u = get_or-set_other l j y v 0 (λ z. omega arith)

  nets-more : nets_of (j + 1) (set w j x) (set f j m) (set c j (e - m)) marks' ≡ nets_of j w f c marks ++ (record { weight = x; pins = slice m e marks' } ∷ [])
  unfolding nets_of
  nets-more =
      let z : m + (e - m) ≡ e = omega arith in
      rw (
        add-one,
        nets-frame m w f c marks (set w j x) (set f j m) (set c j (e - m)) marks' keep j (other w x) (other f m) (other c (e - m)) inside,
        get_or-set_same w j x 0 wl,
        get_or-set_same f j m 0 fl,
        get_or-set_same c j (e - m) 0 cl,
        z,
      )

  inside-more : (y : ℕ) → y < j + 1 → get_or (set f j m) y 0 + get_or (set c j (e - m)) y 0 ≤ e
  inside-more y l = go (ℕ_discrete y j)
    where
      go : Dec (y ≡ j) → get_or (set f j m) y 0 + get_or (set c j (e - m)) y 0 ≤ e
      go (yes q) = omega (arith, ap (λ (y : ℕ). get_or (set f j m) y 0) q, ap (λ (y : ℕ). get_or (set c j (e - m)) y 0) q, get_or-set_same f j m 0 fl, get_or-set_same c j (e - m) 0 cl)
      go (no n) = omega (arith, get_or-set_other f j y m 0 n, get_or-set_other c j y (e - m) 0 n, inside y (omega arith))

-- ---- where the marks lie
sizes-keep : (n j v : ℕ) (c : List ℕ) → n ≤ j → sum n (λ y. get_or (set c j v) y 0) ≡ sum n (λ y. get_or c y 0)
sizes-keep n j v c le = sum-ext n _ _ (λ y u. get_or-set_other c j y v 0 (λ z. omega arith))

-- one buyer more, whose marks end at e
laid_more : (most j m e : ℕ) (f₀ c₀ marks₀ f c marks marks' : List ℕ) → m ≤ e → j < length f → j < length c → e ≤ most → Laid most j m f₀ c₀ marks₀ f c marks → Past e marks marks'
    → Laid most (j + 1) e f₀ c₀ marks₀ (set f j m) (set c j (e - m)) marks'
laid_more most j m e f₀ c₀ marks₀ f c marks marks' le fl cl el on past = record {
  m-le = el;
  m-is = omega (arith, sum_step j (λ y. get_or (set c j (e - m)) y 0), sizes-keep j j (e - m) c (omega arith), get_or-set_same c j (e - m) 0 cl, on.m-is);
  first-is = λ x u. first x u (ℕ_discrete x j);
  past = λ x u. past x u ∙ on.past x (omega arith);
  f-past = λ x u. get_or-set_other f j x m 0 (λ z. omega arith) ∙ on.f-past x (omega arith);
  c-past = λ x u. get_or-set_other c j x (e - m) 0 (λ z. omega arith) ∙ on.c-past x (omega arith);
}
  where
    first : (x : ℕ) → x < j + 1 → Dec (x ≡ j) → get_or (set f j m) x 0 ≡ sum x (λ y. get_or (set c j (e - m)) y 0)
    first x u (yes q) = ap (λ (y : ℕ). get_or (set f j m) y 0) q ∙ get_or-set_same f j m 0 fl ∙ on.m-is ∙ sym (sizes-keep j j (e - m) c (omega arith)) ∙ ap (λ (n : ℕ). sum n (λ y. get_or (set c j (e - m)) y 0)) (sym q)
    first x u (no n) = get_or-set_other f j x m 0 n ∙ on.first-is x (omega arith) ∙ sym (sizes-keep x j (e - m) c (omega arith))

-- ---- buyers are missing
module _ (est : Bool) (l b : ℕ) (h : Hypergraph) (m : ℕ) (ns : List Net) (size : vertices h ≡ l) (lt : length ns < b) where
  few-nets : whole (book est l b (with_nets h ns) m []) ≡ false
  few-nets = ap (λ (t : Bool). eqb (vertices h) l && t) (ne_eqb (length ns) b (λ e. omega arith)) ∙ go (eqb (vertices h) l)
    where
      go : (t : Bool) → (t && false) ≡ false
      go true = refl
      go false = refl

  buy-turn : (limits : Limits) (n : ℕ) (x : List ℕ) → line limits n (reading (book est l b (with_nets h ns) m [])) x ≡ buy_line limits n (book est l b (with_nets h ns) m []) (fields x)
  unfolding line
  buy-turn limits n x = rw (le-ltb (vertices h) l (omega arith), lt-ltb (length ns) b lt)

net-read-is : (est : Bool) (n l b w m e : ℕ) (h : Hypergraph) (ns : List Net) (vs : List ℕ) → net_read n (book est l b (with_nets h ns) m []) w (marked vs e) ≡ grown n (book est l b (with_nets h (ns ++ (record { weight = w; pins = vs } ∷ []))) e [])
unfolding net_read with_net
net-read-is est n l b w m e h ns vs = refl

pub record OnBuys (p : ℕ) (s : List ℕ) (at most l b : ℕ) (f₀ c₀ marks₀ w f c marks stamps : List ℕ) (i j m : ℕ) : Type 0 where
  pub i-le : i ≤ length s
  pub j-le : j ≤ b
  pub l_le : l ≤ 1024
  pub b-le : b ≤ 1024
  pub m-le : m ≤ most
  pub most-le : most ≤ 8192
  pub w-len : length w ≡ 1024
  pub f-len : 1024 ≤ length f
  pub c_len : 1024 ≤ length c
  pub wide : most ≤ length marks
  pub slen : length stamps ≡ 1024
  pub f-same : length f ≡ length f₀
  pub c-same : length c ≡ length c₀
  pub m-same : length marks ≡ length marks₀
  pub fresh : Fresh (j + 1) stamps
  pub inside : (x : ℕ) → x < j → get_or f x 0 + get_or c x 0 ≤ m
  pub laid : Laid most j m f₀ c₀ marks₀ f c marks
  pub says : (limits : Limits) (est : Bool) (h : Hypergraph) → limits.pin_limit ≡ most → vertices h ≡ l → through limits (p + 1) (grown p (book est l b (with_nets h []) 0 [])) (parts 10 (slice at (length s) s))
      ≡ through limits (p + 1 + j) (grown (p + j) (book est l b (with_nets h (nets_of j w f c marks)) m [])) (parts 10 (slice i (length s) s))

pub buys-start : (p : ℕ) (s : List ℕ) (at most l b : ℕ) (w f c marks stamps : List ℕ) → BuysReady s at most l b w f c marks stamps → OnBuys p s at most l b f c marks w f c marks stamps at 0 0
unfolding nets_of
buys-start p s at most l b w f c marks stamps r = record {
  i-le = r.at-le;
  j-le = omega arith;
  l_le = r.l_le;
  b-le = r.b-le;
  m-le = omega arith;
  most-le = r.few;
  w-len = r.w-len;
  f-len = r.f-len;
  c_len = r.c_len;
  wide = r.wide;
  slen = r.slen;
  f-same = refl;
  c-same = refl;
  m-same = refl;
  fresh = r.fresh;
  inside = λ x u. absurd (omega arith);
  laid = record { m-le = omega arith; m-is = sym (sum-zero (λ y. get_or c y 0)); first-is = λ x u. absurd (omega arith); past = λ x u. refl; f-past = λ x u. refl; c-past = λ x u. refl };
  says = λ limits est h is e. let u : p + 1 + 0 ≡ p + 1 = omega arith in let v : p + 0 ≡ p = omega arith in rw (u, v);
}

module _ (p : ℕ) (s : List ℕ) (at most l b : ℕ) (f₀ c₀ marks₀ w f c marks stamps : List ℕ) (i j m : ℕ) (on : OnBuys p s at most l b f₀ c₀ marks₀ w f c marks stamps i j m) where
  pub buys-done : j ≡ b → BuysRead p s at most l b (Ok (record { end = i; pins = m })) f₀ c₀ marks₀ w f c marks
  buys-done e = record {
    inside = λ a q. subst (λ (x : Nets). x.end ≤ length s) (ok-ok q) on.i-le;
    w-len = λ a q. on.w-len;
    laid = λ a q. subst (λ (x : Nets). Laid most b x.pins f₀ c₀ marks₀ f c marks) (ok-ok q) (rw (← e) on.laid);
    says = λ limits est h lim q. sym (on.says limits est h lim q ∙ ap (λ (n : ℕ). through limits (p + 1 + n) (grown (p + n) (book est l b (with_nets h (nets_of n w f c marks)) m [])) (parts 10 (slice i (length s) s))) e);
  }

  module _ (lt : j < b) where
    abbrev ns : List Net
    ns = nets_of j w f c marks

    abbrev now-book : Bool → Hypergraph → Book
    now-book est h = book est l b (with_nets h ns) m []

    few : (est : Bool) (h : Hypergraph) → vertices h ≡ l → whole (now-book est h) ≡ false
    few est h q = few-nets est l b h m ns q (omega (arith, nets-length j w f c marks))

    here : (limits : Limits) (est : Bool) (h : Hypergraph) → limits.pin_limit ≡ most → vertices h ≡ l → through limits (p + 1) (grown p (book est l b (with_nets h []) 0 [])) (parts 10 (slice at (length s) s)) ≡ through limits (p + 1 + j) (reading (now-book est h)) (parts 10 (slice i (length s) s))
    here limits est h lim q = on.says limits est h lim q ∙ ap (λ (r : Reading). through limits (p + 1 + j) r (parts 10 (slice i (length s) s))) (partly (now-book est h) (few est h q) (p + j))

    module _ (e : ℕ) (found : FirstAt s i (length s) 10 e) where
      pub buys-none : e ≡ length s → BuysRead p s at most l b (Err (refused_at BadlyWritten (p + 1 + j))) f₀ c₀ marks₀ w f c marks
      buys-none x = record {
        inside = λ a q. err-ok q;
        w-len = λ a q. on.w-len;
        laid = λ a q. err-ok q;
        says = λ limits est h lim q. sym (here limits est h lim q ∙ through-none limits s (length s) i e (p + 1 + j) on.i-le (omega arith) found (reading (now-book est h)) (partly-on (now-book est h) (few est h q)) x);
      }

      module _ (more : e < length s) (r : Result Buyer Refusal) (marks' stamps' : List ℕ) (read : BuyRead (fields (slice i e s)) l most (j + 1) m r marks marks' stamps') where
        step : (limits : Limits) (est : Bool) (h : Hypergraph) → limits.pin_limit ≡ most → vertices h ≡ l → through limits (p + 1) (grown p (book est l b (with_nets h []) 0 [])) (parts 10 (slice at (length s) s))
            ≡ through limits (p + 1 + j + 1) (buy_seen (p + 1 + j) (now-book est h) m r marks') (parts 10 (slice (e + 1) (length s) s))
        step limits est h lim q =
            here limits est h lim q
            ∙ through-on limits s (length s) i e (p + 1 + j) on.i-le (omega arith) found (reading (now-book est h)) (partly-on (now-book est h) (few est h q)) more
            ∙ ap (λ (x : Reading). through limits (p + 1 + j + 1) x (parts 10 (slice (e + 1) (length s) s)))
            (buy-turn est l b h m ns q (omega (arith, nets-length j w f c marks)) limits (p + 1 + j) (slice i e s) ∙ sym (read.says limits (p + 1 + j) (now-book est h) lim q refl))

        pub buys-stop : (q : Refusal) → r ≡ Err q → BuysRead p s at most l b (Err (refused_at q (p + 1 + j))) f₀ c₀ marks₀ w f c marks'
        buys-stop q x = record {
          inside = λ a u. err-ok u;
          w-len = λ a u. on.w-len;
          laid = λ a u. err-ok u;
          says = λ limits est h lim z. sym (step limits est h lim z ∙ ap (λ (y : Result Buyer Refusal). through limits (p + 1 + j + 1) (buy_seen (p + 1 + j) (now-book est h) m y marks') (parts 10 (slice (e + 1) (length s) s))) x ∙ through-stopped limits (p + 1 + j + 1) (number_of q) (p + 1 + j) (parts 10 (slice (e + 1) (length s) s)));
        }

        module _ (a : Buyer) (is : r ≡ Ok a) where
          abbrev x : ℕ
          x = a.weight

          abbrev z : ℕ
          z = a.pins

          pub grows : Stamped most m z (j + 1) marks' stamps'
          grows = read.next a is

          pub buys-on : OnBuys p s at most l b f₀ c₀ marks₀ (set w j x) (set f j m) (set c j (z - m)) marks' stamps' (e + 1) (j + 1) z
          buys-on =
              let le : m ≤ z = grows.f-le in
              let wl : j < length w = omega (arith, on.w-len, on.b-le) in
              let fl : j < length f = omega (arith, on.f-len, on.b-le) in
              let cl : j < length c = omega (arith, on.c_len, on.b-le) in
              record {
                i-le = omega arith;
                j-le = omega arith;
                l_le = on.l_le;
                b-le = on.b-le;
                m-le = grows.m-le;
                most-le = on.most-le;
                w-len = simp length-set on.w-len;
                f-len = simp length-set on.f-len;
                c_len = simp length-set on.c_len;
                wide = omega (arith, read.len, on.wide);
                slen = read.slen;
                f-same = simp length-set on.f-same;
                c-same = simp length-set on.c-same;
                m-same = read.len ∙ on.m-same;
                fresh = record { below = λ y. omega (arith, grows.below y) };
                inside = inside-more j m z x w f c marks marks' read.keep le wl fl cl on.inside;
                laid = laid_more most j m z f₀ c₀ marks₀ f c marks marks' le fl cl grows.m-le on.laid (read.past a is);
                says = λ limits est h lim q.
                    let v : p + 1 + (j + 1) ≡ p + 1 + j + 1 = omega arith in
                    let u : p + (j + 1) ≡ p + 1 + j = omega arith in
                    step limits est h lim q
                    ∙ ap (λ (y : Result Buyer Refusal). through limits (p + 1 + j + 1) (buy_seen (p + 1 + j) (now-book est h) m y marks') (parts 10 (slice (e + 1) (length s) s))) is
                    ∙ ap (λ (y : Reading). through limits (p + 1 + j + 1) y (parts 10 (slice (e + 1) (length s) s))) (net-read-is est (p + 1 + j) l b x m z h ns (slice m z marks'))
                    ∙ rw (v, u, nets-more j m z x w f c marks marks' read.keep le wl fl cl on.inside);
              }
