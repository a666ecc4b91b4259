-- What is known of the nodes where a session of own code stands still.
use Rattle.std.proofs.Common.{◌≡◌, ℕ, List, [], ◌∷◌, ◌++◌, length, slice_get, Option, Some, sym, ap, subst, ◌∙◌, arith}
use Rattle.std.proofs.lemmas.List.{length-replicate}
use Rattle.std.proofs.lemmas.Option.{same_Some, none-some, slice_get_within}
use Rattle.ivy_model.specs.declared.Config.{Config}
use Rattle.ivy_model.specs.stated.Config.{IsConfig}
use Rattle.ivy_calls.specs.declared.answer.Answer.{Answer}
use Rattle.ivy_program.specs.stated.Programs.{Program, Called}
use Rattle.ivy_host.specs.declared.opening.Opening.{Opening}
use Rattle.ivy_ether.specs.Programs.{Told, all_handed}
use Rattle.ivy_ether.specs.Views.{View}
use Rattle.ivy_own.specs.Reports.{all_open}
use Rattle.ivy_own.proofs.Each.{push_each, got_last, got_before}
use Rattle.ivy_standstill.specs.CollectedSoFar.{AreToldSoFar}
use Rattle.ivy_standstill.specs.Ends.{IsStandstill}
use Rattle.ivy_standstill.specs.SoFar.{NodeSoFar, IsHandedSoFar}
use Rattle.ivy_standstill.proofs.SoFar.{reported_so_far, settled_so_far}
use Rattle.ivy_watching.specs.Standings.{AllStand, IsOwnStandstill, Stands}

module _ {Out : Type 0} (done : ℕ → List Answer → Out → Type 0) where
  -- of no node
  pub stand_none : (nodes : List NodeSoFar) (outs : List (Option Out)) → nodes ≡ []
      → AllStand done nodes outs
  stand_none nodes outs none i n out there its =
      absurd (none-some n (ap (λ l. slice_get l i) (sym none) ∙ there))

  -- of one node more
  pub stand_more : (nodes : List NodeSoFar) (outs : List (Option Out)) (n : NodeSoFar)
      (out : Option Out) → length nodes ≡ length outs → AllStand done nodes outs
      → Stands done (length nodes) n out → AllStand done (nodes ++ n ∷ []) (outs ++ out ∷ [])
  stand_more nodes outs n out same all stands i m o at there =
      push_each
      (λ (j : ℕ) (x : NodeSoFar). (y : Option Out) → slice_get (outs ++ out ∷ []) j ≡ Some y
      → Stands done j x y)
      nodes n
      (λ j x here y its.
      let lt = slice_get_within nodes j x here in
      all j x y here (sym (got_before outs (out ∷ []) j (omega (arith, lt, same))) ∙ its))
      (λ y its.
      let last : slice_get (outs ++ out ∷ []) (length nodes) ≡ Some out =
      ap (slice_get (outs ++ out ∷ [])) same ∙ got_last outs out in
      subst (Stands done (length nodes) n) (same_Some out y (sym last ∙ its)) stands)
      i m at o there

  -- what the starter was told of nodes that stand still, and what their works gave
  pub own_standstill : (c : Config) (opened : Opening) → IsConfig c → (programs : List Program)
      → programs ≡ all_open c → (nodes : List NodeSoFar) (outs : List (Option Out)) (v : View)
      → length nodes ≡ c.nodes → length outs ≡ c.nodes → AreToldSoFar c opened programs v nodes
      → Told c opened programs v → IsStandstill nodes → AllStand done nodes outs
      → IsOwnStandstill c opened done nodes outs
  own_standstill c opened limits programs its nodes outs v many all told tells still stand =
      let long : length (all_open c) ≡ c.nodes = length-replicate c.nodes (Called [] []) in
      let r : IsHandedSoFar c opened (all_open c) nodes =
      reported_so_far c opened (all_open c) limits long nodes v (many ∙ sym long)
      (subst (λ ps. AreToldSoFar c opened ps v nodes) its told)
      (subst (λ ps. Told c opened ps v) its tells) in
      record {
        report = r;
        still = still;
        settled = settled_so_far c opened (all_handed r.0 (all_open c)) nodes r.1 still;
        all = all ∙ sym many;
        each = stand;
      }
