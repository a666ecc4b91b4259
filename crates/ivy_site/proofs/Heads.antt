-- What the head of a string that spells a frame says.
use Rattle.std.proofs.Common.{◌≡◌, ◌≢◌, ℕ, ◌<◌, ◌≤◌, ◌^◌, ◌⊎◌, List, length, Option, Some, Result, Err, MatchResult, sym, ap, subst, ◌∙◌}
use Rattle.std.specs.Prelude.{IfErr, MatchOption}
use Rattle.ivy_model.specs.declared.Fault.{Fault}
use Rattle.ivy_model.specs.Wants.{RanOut}
use Rattle.ivy_wire.specs.declared.FrameKind.{FrameKind}
use Rattle.ivy_wire.specs.stated.DecodeErrors.{checked}
use Rattle.ivy_wire.proofs.Frames.{spelled_once}
use Rattle.ivy_model.specs.declared.Config.{Config}
use Rattle.ivy_model.specs.stated.Config.{IsConfig}
use Rattle.ivy_wire.specs.declared.frame.Frame as frame
use Rattle.ivy_wire.specs.stated.Data.{Message, Frame}
use Rattle.ivy_wire.specs.Lent.{head_of}
use Rattle.ivy_wire.specs.stated.Spelling.{Spells, FitsMessage}
use Rattle.ivy_link.specs.declared.Verdict.{Verdict}
use Rattle.ivy_link.specs.stated.Accepted.{offered}
use Rattle.ivy_link.specs.Holding.{after_hold}
use Rattle.ivy_link.specs.Outboxes.{Outbox, HasNumbers, RefusesParcels, holding_of, with_holding, posted_by}
use Rattle.ivy_site.specs.SiteView.{SiteView, holding_at, box_of, boxed}
use Rattle.ivy_site.specs.Sites.{SpellsFrame, IsSite, IsSpentDelivery, holding_in}
use Rattle.ivy_site.specs.Inside.{Hears, HoldsString}
use Rattle.ivy_host.specs.stated.Managers.{Managed, managed_ops}
use Rattle.ivy_coherence.specs.EventLimits.{most_posted}
use Rattle.ivy_memory.specs.Asking.{IsMessageWant}
use Rattle.ivy_memory.specs.stated.Memories.{NodeMemory, memory_handled, memory_told}
use Rattle.ivy_link.specs.declared.Verdict.TheVariants as verdict
use Rattle.ivy_site.proofs.Delivering.{IsRead, IsHeard, heard_message, spent_message, offered_mine}
use Rattle.ivy_site.proofs.Receiving.{boxed_held, told_early}

abbrev Head : Type 0
Head = frame.Frame (Unit {0})

-- the head is that of each frame which the string spells
abbrev pub IsHead : List ℕ → Head → Type 0
IsHead bytes head = (c : Config) (f : Frame) → Spells c f bytes → head ≡ head_of f

module _ (n : SiteView) (bytes lent : List ℕ) (same : lent ≡ bytes) (s : SpellsFrame n.config bytes)
    (head : Head) (heads : IsHead lent head) where
  pub head_is : head ≡ head_of s.0
  head_is = heads n.config s.0 (subst (Spells n.config s.0) (sym same) s.1)

  pub source_is : s.0.source ≡ head.source
  source_is = sym (ap (λ (h : Head). h.source) head_is)

  pub source_there : head.source < n.config.nodes
  source_there = subst (λ i. i < n.config.nodes) source_is s.1.fits.source

  pub number_small : head.number < 2 ^ 64
  number_small =
      subst (λ i. i < 2 ^ 64) (sym (ap (λ (h : Head). h.number) head_is)) s.1.fits.number

  -- what it is to the node
  pub read_head : (v : SiteView) → v ≡ n → (k : Config) → k ≡ v.config → IsConfig k → (w : Verdict)
      → w ≡ offered v.node.link head → IsRead v k s.0 bytes w
  read_head v at k config limits w is = record {
    config = config;
    limits = limits;
    spelled =
        subst (λ c. Spells c s.0 bytes) (sym (config ∙ ap (λ (x : SiteView). x.config) at)) s.1;
    is = is ∙ ap (offered v.node.link) head_is;
  }

  -- its message fits
  pub message_fits : (k : Config) → k ≡ n.config → (m : Message) → s.0.body ≡ Some m → FitsMessage k m
  message_fits k config m body =
      subst (λ c. FitsMessage c m) (sym config)
      (subst (λ o. MatchOption o (s.0.number ≡ 0) (λ x. (1 ≤ s.0.number) × FitsMessage n.config x)) body
      s.1.fits.body).1

-- the message of the next frame is served as one of the source that its head names
pub heard_from : (v : SiteView) (f : Frame) (w : Verdict) (m : Message) (memory : NodeMemory Managed)
    (box : Outbox) (from : ℕ) → f.source ≡ from → w ≡ verdict.Next → f.body ≡ Some m
    → memory ≡ memory_told managed_ops v.node.core.memory from m
    → HasNumbers (box_of v) (memory_handled managed_ops v.node.core.memory from m).posted
    → length (memory_handled managed_ops v.node.core.memory from m).posted ≤ most_posted
    → box ≡ posted_by (box_of v) (memory_handled managed_ops v.node.core.memory from m).posted
    → IsHeard v f w
    (record v.node.core { memory = memory })
    box
heard_from v f w m memory box from same next body =
    subst (λ i. memory ≡ memory_told managed_ops v.node.core.memory i m
    → HasNumbers (box_of v) (memory_handled managed_ops v.node.core.memory i m).posted
    → length (memory_handled managed_ops v.node.core.memory i m).posted ≤ most_posted
    → box ≡ posted_by (box_of v) (memory_handled managed_ops v.node.core.memory i m).posted
    → IsHeard v f w
    (record v.node.core { memory = memory })
    box) same (heard_message v f w m memory box next body)

pub spent_from : {B C : Type 0} (n v : SiteView) → v ≡ n
    → (k : Config) (f : Frame) (bytes : List ℕ) (w : Verdict) → IsRead v k f bytes w
    → w ≡ verdict.Next → (m : Message) → f.body ≡ Some m → (e : Fault) (from : ℕ)
    → f.source ≡ from
    → (IsMessageWant v.node.core.memory.coherence
    (memory_handled managed_ops v.node.core.memory from m).posted e × B)
    ⊎ (RefusesParcels (box_of v) (memory_handled managed_ops v.node.core.memory from m).posted e × C)
    → IsSpentDelivery n bytes e
spent_from {B} {C} n v same k f bytes w r next m body e from source =
    subst (λ i. (IsMessageWant v.node.core.memory.coherence
    (memory_handled managed_ops v.node.core.memory i m).posted e × B)
    ⊎ (RefusesParcels (box_of v) (memory_handled managed_ops v.node.core.memory i m).posted e × C)
    → IsSpentDelivery n bytes e) source (spent_message n v same k f bytes w r next m body e)

-- it comes from another node
pub source_foreign : (v : SiteView) (k : Config) (f : Frame) (bytes : List ℕ) (w : Verdict)
    → IsRead v k f bytes w → w ≢ verdict.NotMine → v.node.link.me ≡ v.me → IsSite v → (from : ℕ)
    → f.source ≡ from → from ≢ v.node.core.memory.coherence.me
source_foreign v k f bytes w r mine link site from same me =
    r.spelled.fits.apart
    (same ∙ me ∙ site.me ∙ sym link ∙ sym (offered_mine v f (λ not. mine (r.is ∙ not))))

-- the string of the head is held
pub held_head : (v : SiteView) (f : Frame) (head : Head) (bytes : List ℕ) (box : Outbox)
    → head ≡ head_of f
    → box ≡ with_holding (box_of v) (after_hold (holding_of (box_of v)) head bytes)
    → boxed v box ≡ holding_in v f bytes
held_head v f head bytes box is made =
    boxed_held v head bytes box made
    ∙ ap (λ (h : Head). record v { held = (after_hold (holding_at v) h bytes).held }) is

-- and another head of the same string would not say otherwise
pub held_any : (n v new : SiteView) → v ≡ n → (bytes lent : List ℕ) → lent ≡ bytes → (head : Head)
    → IsHead lent head
    → (box : Outbox) → box ≡ with_holding (box_of v) (after_hold (holding_of (box_of v)) head bytes)
    → new ≡ boxed v box → HoldsString bytes n new
held_any n v new same bytes lent is head heads box made after f spelled =
    after
    ∙ held_head v f head bytes box (heads n.config f (subst (Spells n.config f) (sym is) spelled)) made
    ∙ ap (λ x. holding_in x f bytes) same

-- a string that was read spells a frame
pub reads_frame : (n v : SiteView) → v ≡ n → (k : Config) → k ≡ v.config → (f : Frame)
    → (bytes lent : List ℕ) → lent ≡ bytes → Spells k f lent → SpellsFrame n.config bytes
reads_frame n v same k config f bytes lent is spelled =
    subst (SpellsFrame n.config) is
    (subst (λ c. SpellsFrame c lent) (config ∙ ap (λ (x : SiteView). x.config) same) (f, spelled))

-- and is refused by no test
pub refused_none : {A : Type 0} (c : Config) → IsConfig c → (bytes : List ℕ) → SpellsFrame c bytes
    → (r : Result A Fault) → IfErr r RanOut
    → MatchResult (checked c bytes) (λ (k : FrameKind). IfErr r RanOut) (λ fault. r ≡ Err fault)
refused_none c limits bytes s r want =
    subst (λ x. MatchResult x (λ (k : FrameKind). IfErr r RanOut) (λ fault. r ≡ Err fault))
    (sym (spelled_once c s.0 bytes limits s.1).0) want

-- a string that came too early spells the frame still
pub held_spelled : (bytes string : List ℕ) (w : Verdict) (from : ℕ) (early : Option (List ℕ))
    (old mid : SiteView) → early ≡ Some string → Hears bytes w from early old mid
    → mid.config ≡ old.config → SpellsFrame old.config bytes → SpellsFrame mid.config string
held_spelled bytes string w from early old mid some h config s =
    subst (λ c. SpellsFrame c string) (sym config)
    (subst (SpellsFrame old.config) (sym (told_early bytes string w from early old mid some h).0) s)
