-- What the starter was told, and what the works gave, is a report.
use Rattle.std.proofs.Common.{◌≡◌, ℕ, List, [], length, sym, subst, ◌∙◌, inl, inr, arith}
use Rattle.std.proofs.lemmas.List.{length-replicate}
use Rattle.std.proofs.lemmas.Option.{slice_get_within, slice_get_cases}
use Rattle.ivy_model.specs.declared.Config.{Config}
use Rattle.ivy_model.specs.stated.Config.{IsConfig}
use Rattle.ivy_calls.specs.declared.answer.Answer.{Answer}
use Rattle.ivy_calls.specs.Answers.{answers}
use Rattle.ivy_calls.specs.Shared.{AreShared}
use Rattle.ivy_program.specs.stated.Programs.{Program, Called}
use Rattle.ivy_host.specs.declared.opening.Opening.{Opening}
use Rattle.ivy_ether.specs.Views.{View}
use Rattle.ivy_ether.specs.Programs.{Told}
use Rattle.ivy_seating.specs.Reports.{NodeReport, IsHandedReport}
use Rattle.ivy_seating.specs.Collected.{AreTold}
use Rattle.ivy_session.proofs.Reported.{reported}
use Rattle.ivy_own.specs.Ended.{AreClosed}
use Rattle.ivy_own.specs.Reports.{IsOwnReport, all_open}

module _ {Out : Type 0} (c : Config) (opened : Opening) (done : ℕ → List Answer → Out → Type 0)
    (limits : IsConfig c) where
  shared : (nodes : List NodeReport) (outs : List Out) → length nodes ≡ c.nodes
      → length outs ≡ c.nodes → AreClosed done nodes outs
      → (r : IsHandedReport c opened (all_open c) nodes) → AreShared c done r.1.order outs
  shared nodes outs many all closed r = record {
    config = limits;
    legal = r.1.explained.legal;
    all = all;
    each = λ i out there.
        let inside = slice_get_within outs i out there in
        elim ((slice_get_cases nodes i).1) [
          | inl n ↦
              subst (λ l. done i (answers l) out) (sym (r.1.explained.parts i n.0 n.2))
              (closed i n.0 out n.2 there)
          | inr past ↦ let most = past.0 in absurd (omega (arith, inside, all, many, most))
        ];
  }

  pub own_report : (programs : List Program) → programs ≡ all_open c → (nodes : List NodeReport)
      (outs : List Out) (v : View) → length nodes ≡ c.nodes → length outs ≡ c.nodes
      → AreTold c opened programs v nodes → Told c opened programs v → AreClosed done nodes outs
      → IsOwnReport c opened done nodes outs
  own_report programs its nodes outs v many all told tells closed =
      let long : length (all_open c) ≡ c.nodes = length-replicate c.nodes (Called [] []) in
      let r : IsHandedReport c opened (all_open c) nodes =
      reported c opened (all_open c) limits long nodes v (many ∙ sym long)
      (subst (λ ps. AreTold c opened ps v nodes) its told)
      (subst (λ ps. Told c opened ps v) its tells) in
      record { report = r; shared = shared nodes outs many all closed r }
