-- What a step has to show of the requests about each page, so that these stay managed; and steps
-- that are calm.
use Rattle.std.proofs.Common.{◌≡◌, ◌≢◌, ◌⊎◌, ◌<◌, ◌%◌, ℕ, true, sym, ◌∙◌, subst, inl, inr}
use Rattle.std.proofs.lemmas.Bool.{cases_eq, both_ways}
use Rattle.ivy_model.specs.declared.Config.{Config}
use Rattle.ivy_wire.specs.declared.Content.TheVariants as content
use Rattle.ivy_fixed.specs.stated.Fixed.{Owners, hop_of, fixed_ops}
use Rattle.proof_table.specs.stated.Letters.{Net}
use Rattle.proof_table.specs.stated.Orderly.{IsOrderly}
use Rattle.proof_table.specs.stated.Descending.{IsAsked}
use Rattle.proof_table.specs.routing.Claiming.{claims, IsReader}
use Rattle.proof_table.specs.routing.Managing.{IsManaged}
use Rattle.proof_table.proofs.routing.Moves.{Move, Calm, move_routed}
use Rattle.proof_table.proofs.routing.Managers.{IsTold}
use Rattle.proof_table.proofs.routing.Turns.{move_turns}
use Rattle.proof_table.proofs.routing.Claims.{IsCalmed, reading_unclaimed}
use Rattle.proof_table.proofs.routing.Remaining.{IsCounted}

-- the move of the requests about page q
abbrev pub MoveAt : Config → (ℕ → Owners) → (ℕ → Owners) → Net → Net → ℕ → Type 0
MoveAt c m m' n n' q =
    Move (λ y. claims (n.entry y q)) (λ y. claims (n'.entry y q)) (IsAsked n (content.WriteReq q))
    (IsAsked n' (content.WriteReq q))
    (IsReader n q) (IsReader n' q) (q % c.nodes) (hop_of (m (q % c.nodes)) q)
    (hop_of (m' (q % c.nodes)) q)

module _ (c : Config) (m m' : ℕ → Owners) (n n' : Net) (x p : ℕ) (t : IsTold fixed_ops m m' x p)
  where
    pub moves_managed : IsOrderly c n → IsCounted n' → ((q : ℕ) → q < c.pages → MoveAt c m m' n n' q)
        → IsManaged c m n → IsManaged c m' n'
    moves_managed order counted moves managed = record {
      me = λ i lt. (t.keeps i).me ∙ managed.me i lt;
      nodes = λ i lt. (t.keeps i).nodes ∙ managed.nodes i lt;
      size = λ i lt. (t.keeps i).size ∙ managed.size i lt;
      counted = counted;
      routed = λ q lt. move_routed _ _ _ _ _ _ _ _ _ (moves q lt) (managed.routed q lt);
      turns = λ q lt. (
          let t = managed.turns q lt in
          move_turns _ _ _ _ _ _ _ _ _ (managed.routed q lt) t.0 t.1 (moves q lt)
          (reading_unclaimed c n order q)
          );
    }

    -- of the other pages the next hops are the same
    pub other_hop : (i q : ℕ) → q ≢ p → hop_of (m' i) q ≡ hop_of (m i) q
    other_hop i q ne = (t.keeps i).others q ne

    pub calm_managed : IsOrderly c n → IsCalmed n n'
        → (hop_of (m' (p % c.nodes)) p ≡ hop_of (m (p % c.nodes)) p)
        ⊎ (claims (n.entry (p % c.nodes) p) ≡ true)
        → IsManaged c m n → IsManaged c m' n'
    calm_managed order calm kept managed =
        moves_managed order (calm.counted managed.counted) (λ q lt. Calm (record {
          claims = λ y. calm.claiming y q;
          writes = λ i y. calm.old.asked (content.WriteReq q) tt i y;
          reads = calm.readers q;
          stays = calm.still q;
          kept = elim (cases_eq q p) [
            | inr ne ↦ inl (other_hop (q % c.nodes) q ne)
            | inl same ↦ elim kept [
              | inl h ↦
                  inl (subst (λ v. hop_of (m' (v % c.nodes)) v ≡ hop_of (m (v % c.nodes)) v) (sym same) h)
              | inr h ↦ inr (
                  let own : claims (n.entry (q % c.nodes) q) ≡ true =
                  subst (λ v. claims (n.entry (v % c.nodes) v) ≡ true) (sym same) h in (
                    own,
                    λ y k. both_ways (claims (n.entry (q % c.nodes) q)) (reading_unclaimed c n order q (q % c.nodes) y k)
                        own,
                  )
                  )
            ]
          ];
        })) managed

    -- one page's requests move, and of the others none is new
    pub page_managed : IsOrderly c n → IsCounted n'
        → ((y q : ℕ) → q ≢ p → claims (n'.entry y q) ≡ claims (n.entry y q))
        → ((q : ℕ) → q ≢ p → (o y : ℕ) → IsAsked n' (content.WriteReq q) o y
        → IsAsked n (content.WriteReq q) o y)
        → ((q : ℕ) → q ≢ p → (i y : ℕ) → IsReader n' q i y → IsReader n q i y)
        → ((q : ℕ) → q ≢ p → (o y : ℕ) → IsAsked n (content.WriteReq q) o y
        → IsAsked n' (content.WriteReq q) o y)
        → MoveAt c m m' n n' p → IsManaged c m n → IsManaged c m' n'
    page_managed order counted same writes reads stays move =
        moves_managed order counted (λ q lt. elim (cases_eq q p) [
          | inl here ↦ subst (MoveAt c m m' n n') (sym here) move
          | inr ne ↦ Calm (record {
            claims = λ y. same y q ne;
            writes = writes q ne;
            reads = reads q ne;
            stays = stays q ne;
            kept = inl (other_hop (q % c.nodes) q ne);
          })
        ])
