-- What is not in use is untouched by one operation after another. Rests on Tables' Keeps. Assumes nothing.
use Rattle.std.specs.Prelude.{ℕ, ◌≡◌, refl, List}
use Rattle.std.proofs.Common.{arith, ◌∙◌}
use Rattle.connectivity.specs.Set.{kept-none, kept_trans}
use Rattle.operations.specs.Tables.{Tables, Past, Keeps}
use Rattle.operations.specs.Move.{past_same}

past_more : {n n' : ℕ} {l l' l'' : List ℕ} → n' ≡ n → Past n l l' → Past n' l' l'' → Past n l l''
past_more e a b = record { len = b.len ∙ a.len; past = λ i q. b.past i (omega arith) ∙ a.past i q }

pub keeps-none : (T : Tables) → Keeps T T
keeps-none T = record {
  running = record {
    tables = kept-none T.counts T.visited T.gains;
    lists = record { pins-len = refl; sizes-len = refl; pins-past = λ i q. refl; sizes-past = λ e q. refl };
    blocks-len = refl;
    blocks-past = λ y q. refl;
  };
  weights = past_same T.n T.weights;
  aboves = past_same T.n T.aboves;
}

-- where the numbers of vertices, nets and blocks and the loaded stretches are the same
pub keeps-more : {T T' T'' : Tables} → T'.n ≡ T.n → T'.m ≡ T.m → T'.k ≡ T.k → T'.firsts ≡ T.firsts → T'.loaded ≡ T.loaded → Keeps T T' → Keeps T' T'' → Keeps T T''
keeps-more qn qm qk qf ql a b =
    let x = a.running in
    let y = b.running in
    record {
      running = record {
        tables = kept_trans x.tables (rw (qn, qm, qk) at y.tables);
        lists = record {
          pins-len = y.lists.pins-len ∙ x.lists.pins-len;
          sizes-len = y.lists.sizes-len ∙ x.lists.sizes-len;
          pins-past = λ i r. y.lists.pins-past i (λ e l. rw (qf, ql) (r e (omega arith))) ∙ x.lists.pins-past i r;
          sizes-past = λ e l. y.lists.sizes-past e (omega arith) ∙ x.lists.sizes-past e l;
        };
        blocks-len = y.blocks-len ∙ x.blocks-len;
        blocks-past = λ i l. y.blocks-past i (omega arith) ∙ x.blocks-past i l;
      };
      weights = past_more qn a.weights b.weights;
      aboves = past_more qn a.aboves b.aboves;
    }
