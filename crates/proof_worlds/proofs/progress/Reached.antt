-- Each FIFO world that moves lead to from the opening is explained by an order of records; no
-- call in progress there is one that is refused at once, each one is pursued, and as nothing was
-- handed in the opening, nothing is later.
use Rattle.std.proofs.Common.{◌≡◌, ℕ, Bool, List, [], ◌∷◌, ◌++◌, length, slice_get, Some, refl, sym, ap, ◌∙◌, inl, inr, subst}
use Rattle.std.proofs.lemmas.Option.{none-some}
use Rattle.std.specs.List.{Contains}
use Rattle.ivy_model.specs.declared.Config.{Config}
use Rattle.ivy_model.specs.declared.Record.{Record}
use Rattle.ivy_model.specs.stated.Config.{IsConfig}
use Rattle.ivy_wire.specs.stated.Data.{Message}
use Rattle.ivy_pagetable.specs.stated.Manager.{Ops}
use Rattle.ivy_pagetable.specs.Manager.{Laws}
use Rattle.ivy_program.specs.stated.Programs.{Program, fetches_of}
use Rattle.ivy_program.specs.stated.InstructionSteps.{Process}
use Rattle.ivy_program.specs.Programs.{FetchNothing}
use Rattle.ivy_moves.proofs.Splitting.{none-in}
use Rattle.ivy_moves.specs.stated.FifoWorld.{FifoWorld, Steps, rests, turns, delivers}
use Rattle.ivy_host.specs.stated.Hosts.{Host, host_rules, serving}
use Rattle.ivy_host.specs.stated.Openings.{Start}
use Rattle.ivy_host.proofs.Starts.{IsStart}
use Rattle.proof_worlds.specs.stated.FifoRuns.{IsFifoRun, IsReachedInOrder}
use Rattle.proof_worlds.proofs.refinement.Led.{opening_first, opening_unfetched}
use Rattle.proof_worlds.proofs.consistency.Faithful.{IsFaithful, set-places}
use Rattle.proof_worlds.proofs.consistency.FaithfulSteps.{GoesOn, faithful_next}
use Rattle.proof_worlds.proofs.consistency.FaithfulOpening.{opening_faithful}
use Rattle.proof_worlds.proofs.progress.Asking.{IsServable, turn-served, serve-served}
use Rattle.proof_worlds.proofs.refinement.HostTurns.{turn_cases}
use Rattle.proof_worlds.proofs.progress.FetchedPages.{turn-handed}
use Rattle.proof_worlds.proofs.progress.Pursued.{AllPursued, pursued_next}

abbrev pub AllServable : {S : Type 0} → Config → FifoWorld (Host S) → Type 0
AllServable {S} c o = (i : ℕ) (n : Host S) → slice_get o.cores i ≡ Some n → IsServable c n

-- nothing was handed to be fetched
abbrev pub AllUnhanded : {S : Type 0} → FifoWorld (Host S) → Type 0
AllUnhanded {S} o = (i : ℕ) (n : Host S) → slice_get o.cores i ≡ Some n → fetches_of n.process.program ≡ []

serve-handed : {S : Type 0} (ops : Ops S) (n : Host S) (from : ℕ) (m : Message)
    → (serving ops n from m).after.process ≡ n.process
unfolding serving
serve-handed ops n from m = refl

-- an order explains the world, no call in progress is refused at once, and each is pursued
pub record IsToldBy {S : Type 0} (sends : Bool) (ops : Ops S) (c : Config)
    (o : FifoWorld (Host S)) : Type 0 where
  pub order : List Record
  pub faithful : IsFaithful sends ops c o order
  pub servable : AllServable c o
  pub pursued : AllPursued c o

module _ {S : Type 0} (ops : Ops S) (laws : Laws ops) (start : Start S) (c : Config)
    (config : IsConfig c) (new : IsStart ops c start) (programs : List Program)
    (many : length programs ≡ c.nodes) where
  servable_next : (o o' : FifoWorld (Host S)) (order : List Record)
      → IsFaithful start.sends_on ops c o order
      → AllServable c o → Steps (host_rules ops) o o' → AllServable c o'
  servable_next o o' order f served (rests same) j n there =
      served j n (ap (λ (w : FifoWorld (Host S)). slice_get w.cores j) (sym same) ∙ there)
  servable_next o o' order f served (turns i t) j n there =
      elim (set-places o.cores i j t.outcome.after n
      (ap (λ l. slice_get l j) (sym t.cores) ∙ there)) [
        | inl here ↦
            subst (IsServable c) (sym here.1)
            (turn-served ops c t.core t.outcome (f.sound.sound i t.core t.there).config
            (f.sound.sound i t.core t.there).memory.of_pages
            (served i t.core t.there) t.turned)
        | inr other ↦ served j n other.1
      ]
  servable_next o o' order f served (delivers source i t) j n there =
      elim (set-places o.cores i j ((host_rules ops).serve t.core source t.message).after n
      (ap (λ l. slice_get l j) (sym t.cores) ∙ there)) [
        | inl here ↦
            subst (IsServable c) (sym here.1)
            (serve-served ops c t.core source t.message (served i t.core t.there))
        | inr other ↦ served j n other.1
      ]

  unhanded_next : (o o' : FifoWorld (Host S)) (order : List Record)
      → IsFaithful start.sends_on ops c o order
      → AllUnhanded o → Steps (host_rules ops) o o' → AllUnhanded o'
  unhanded_next o o' order f none (rests same) j n there =
      none j n (ap (λ (w : FifoWorld (Host S)). slice_get w.cores j) (sym same) ∙ there)
  unhanded_next o o' order f none (turns i t) j n there =
      elim (set-places o.cores i j t.outcome.after n
      (ap (λ l. slice_get l j) (sym t.cores) ∙ there)) [
        | inl here ↦
            ap (λ (h : Host S). fetches_of h.process.program) here.1
            ∙ turn-handed ops c t.core t.outcome
            (turn_cases ops c i t.core (f.sound.sound i t.core t.there) t.outcome t.turned)
            ∙ none i t.core t.there
        | inr other ↦ none j n other.1
      ]
  unhanded_next o o' order f none (delivers source i t) j n there =
      elim (set-places o.cores i j ((host_rules ops).serve t.core source t.message).after n
      (ap (λ l. slice_get l j) (sym t.cores) ∙ there)) [
        | inl here ↦
            ap (λ (h : Host S). fetches_of h.process.program) here.1
            ∙ ap (λ (p : Process). fetches_of p.program) (serve-handed ops t.core source t.message)
            ∙ none i t.core t.there
        | inr other ↦ none j n other.1
      ]

  run_told : (before : List (FifoWorld (Host S))) (o : FifoWorld (Host S))
      → IsFifoRun ops start c programs before o → IsToldBy start.sends_on ops c o
  run_told [] o is =
      subst (IsToldBy start.sends_on ops c) (sym is)
      (record {
        order = [];
        faithful = opening_faithful ops start c config new programs many;
        servable = λ i n there called code asked.
            absurd (none-some called
            (ap (λ (h : Host S). h.memory.asked)
            (sym (opening_first start c programs i n there).1) ∙ asked));
        pursued = λ i n there. record {
          fetched = λ p h.
              absurd (none-in p
              (subst (λ ps. Contains ps p)
              (ap (λ (h : Host S). h.memory.coherence.fetched)
              (opening_first start c programs i n there).1) h));
          pursued = λ called page w asked. absurd (none-some called
              (ap (λ (h : Host S). h.memory.asked)
              (sym (opening_first start c programs i n there).1) ∙ asked));
        };
      })
  run_told (last ∷ before) o run =
      let was : IsToldBy start.sends_on ops c last = run_told before last run.0 in
      let on : GoesOn start.sends_on ops c last o was.order =
      faithful_next ops laws c config last o was.order was.faithful run.1 in
      record {
        order = was.order ++ on.more;
        faithful = on.faithful;
        servable = servable_next last o was.order was.faithful was.servable run.1;
        pursued =
            pursued_next ops laws c config last o was.order was.faithful was.pursued run.1;
      }

  pub reached_told : (o : FifoWorld (Host S)) → IsReachedInOrder ops start c programs o
      → IsToldBy start.sends_on ops c o
  reached_told o reached = run_told reached.0 o reached.1

  run_unhanded : FetchNothing programs → (before : List (FifoWorld (Host S))) (o : FifoWorld (Host S))
      → IsFifoRun ops start c programs before o → AllUnhanded o
  run_unhanded none [] o is =
      subst AllUnhanded (sym is)
      (λ i n there.
      opening_unfetched start c programs none i n there)
  run_unhanded none (last ∷ before) o run =
      let was : IsToldBy start.sends_on ops c last = run_told before last run.0 in
      unhanded_next last o was.order was.faithful (run_unhanded none before last run.0) run.1

  -- the openings hand nothing, and no step does
  pub reached_unhanded : FetchNothing programs → (o : FifoWorld (Host S))
      → IsReachedInOrder ops start c programs o → AllUnhanded o
  reached_unhanded none o reached = run_unhanded none reached.0 o reached.1
