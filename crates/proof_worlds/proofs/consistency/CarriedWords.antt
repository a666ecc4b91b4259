-- What words that are carried out come to on the flat memory.
use Rattle.std.specs.Prelude.{All}
use Rattle.std.proofs.lemmas.List.Elements.{All-head, All-tail}
use Rattle.std.proofs.Common.{◌≡◌, ◌<◌, ℕ, List, [], ◌∷◌, Some, refl, ap, sym, ◌∙◌, subst, inl, inr, if◌then◌else◌, ◌==◌}
use Rattle.std.proofs.lemmas.Bool.{cases_eq}
use Rattle.ivy_model.specs.declared.Config.{Config}
use Rattle.ivy_model.specs.declared.Call.{Call}
use Rattle.ivy_model.specs.declared.Record.{Record}
use Rattle.ivy_model.specs.stated.Config.{IsConfig}
use Rattle.ivy_model.specs.Memory.{IsSized, flat_page}
use Rattle.ivy_model.specs.stated.Memory as model
use Rattle.ivy_model.specs.stated.Legal.{HasWidth, ServesAll}
use Rattle.ivy_model.proofs.OrderParts.{leads-append}
use Rattle.ivy_model.proofs.Sizes.{leads_sized}
use Rattle.ivy_pagetable.specs.declared.Entry.{Entry}
use Rattle.ivy_pagetable.specs.declared.Out.{Out}
use Rattle.ivy_pagetable.specs.declared.Word.{Word}
use Rattle.ivy_pagetable.specs.stated.Words.{Carried, carried_out}
use Rattle.ivy_memory.specs.stated.Memories.{reply_of}
use Rattle.proof_table.specs.stated.Letters.{Net}
use Rattle.proof_table.specs.stated.Orderly.{IsOrderly}
use Rattle.proof_table.specs.transitions.TableSteps.{with_flat_page}
use Rattle.proof_worlds.proofs.refinement.LiftedEvents.{Carries, CarriesAll}
use Rattle.proof_worlds.specs.consistency.Copied.{IsCopied}
use Rattle.proof_worlds.proofs.consistency.CopiedWords.{with_page-here, with_page-other, bytes_there}
use Rattle.ivy_memory.specs.Flat.{Answers, IsServed}
use Rattle.ivy_memory.proofs.serving.CallsServed.{word_served}
use Rattle.proof_worlds.proofs.consistency.Owing.{owed, owed-leads, owed_along, reply-given, IsReply, HaveReplies, AreWordsOf, IsWordOf}

-- an orderly net whose copies are those of the flat memory
abbrev pub Copies : {S : Type 0} → Config → (ℕ → S) → Net → (ℕ → List ℕ) → Type 0
Copies c m n f = IsOrderly c n × IsCopied c n f

with_page-same : (f g : ℕ → List ℕ) (p q : ℕ) (b d : List ℕ) → b ≡ d → f q ≡ g q
    → with_flat_page f p b q ≡ with_flat_page g p d q
with_page-same f g p q b d e h =
    ap (λ z. if q == p then z else f q) e ∙ ap (λ z. if q == p then d else z) h

-- the pages after a call that one page's bytes came to
served_pages : (c : Config) (old : model.Memory) (called : Call) (page : ℕ) (came : Carried)
    (s : IsServed c old called page came) (q : ℕ) → q < c.pages
    → flat_page c s.new q ≡ with_flat_page (flat_page c old) page came.bytes q
served_pages c old called page came s q inside = elim (cases_eq q page) [
  | inl same ↦
      ap (flat_page c s.new) same ∙ s.here
      ∙ sym (with_page-here (flat_page c old) page came.bytes q same)
  | inr ne ↦ s.others q inside ne ∙ sym (with_page-other (flat_page c old) page came.bytes q ne)
]

-- what a word that was carried out came to
pub record Came (c : Config) (mem : model.Memory) (called : Call) (out : Out)
    (pages : ℕ → List ℕ) : Type 0 where
  pub new : model.Memory
  pub gives : Answers c mem called (reply_of out) new
  pub shows : (p : ℕ) → p < c.pages → pages p ≡ flat_page c new p
  pub blocks : new.blocks ≡ mem.blocks

module _ {S : Type 0} (c : Config) (config : IsConfig c) (x : ℕ) (mem : model.Memory)
    (sized : IsSized c mem) (f : ℕ → List ℕ)
    (shows : (p : ℕ) → p < c.pages → f p ≡ flat_page c mem p) where
  -- a word is carried out on the flat memory's page
  pub came : {was : ℕ → ℕ → Entry} (page : ℕ) (word : Word) (out : Out) (flat : ℕ → List ℕ) (called : Call) → HasWidth called
      → IsWordOf c called page word → Carries (Copies {S = S} c) was c x f page word out flat
      → Came c mem called out flat
  came page word out flat called legal of k =
      let same : k.net.page x page ≡ flat_page c mem page =
      bytes_there c k.net f x page k.state word k.idle k.enough k.holds.1
      ∙ shows page k.inside in
      let served : IsServed c mem called page (carried_out word (flat_page c mem page)) =
      word_served c mem sized config called page word legal of in
      record {
        new = served.new;
        gives = subst (λ o. Answers c mem called (reply_of o) served.new)
            (sym (k.gives ∙ ap (λ b. (carried_out word b).out) same)) served.answers;
        shows = λ p inside.
            ap (λ g. g p) k.after
            ∙ with_page-same f (flat_page c mem) page p (carried_out word (f page)).bytes
            (carried_out word (flat_page c mem page)).bytes
            (ap (λ b. (carried_out word b).bytes) (shows page k.inside)) (shows p inside)
            ∙ sym (served_pages c mem called page (carried_out word (flat_page c mem page)) served p
            inside);
        blocks = served.blocks;
      }

-- words are carried out one after another on the flat memory's page
pub record CameAll (c : Config) (mem : model.Memory) (me : ℕ) (calls : List Call) (outs : List Out)
    (pages : ℕ → List ℕ) : Type 0 where
  pub new : model.Memory
  pub legal : ServesAll c mem (owed_along me calls outs) new
  pub shows : (p : ℕ) → p < c.pages → pages p ≡ flat_page c new p
  pub blocks : new.blocks ≡ mem.blocks

pub came_all : (S : Type 0) (was : ℕ → ℕ → Entry) (c : Config) (config : IsConfig c) (x me : ℕ) (mem : model.Memory)
    → IsSized c mem → (f : ℕ → List ℕ) → ((p : ℕ) → p < c.pages → f p ≡ flat_page c mem p)
    → me < c.nodes → (page : ℕ) (calls : List Call) (words : List Word) (outs : List Out) (flat : ℕ → List ℕ)
    → All HasWidth calls → AreWordsOf c page calls words
    → CarriesAll (Copies {S = S} c) was c x f page words outs flat
    → CameAll c mem me calls outs flat
came_all S was c config x me mem sized f shows here page [] [] [] flat wide are carries =
    record {
      new = mem;
      legal = refl;
      shows = λ p inside. ap (λ g. g p) carries ∙ shows p inside;
      blocks = refl;
    }
came_all S was c config x me mem sized f shows here page [] [] (o ∷ os) flat wide are carries =
    absurd carries
came_all S was c config x me mem sized f shows here page [] (w ∷ ws) outs flat wide are carries =
    absurd are
came_all S was c config x me mem sized f shows here page (k ∷ ks) [] outs flat wide are carries =
    absurd are
came_all S was c config x me mem sized f shows here page (k ∷ ks) (w ∷ ws) [] flat wide are
    carries = absurd carries
came_all S was c config x me mem sized f shows here page (k ∷ ks) (w ∷ ws) (o ∷ os) flat wide
    are carries =
    let legal : HasWidth k = All-head HasWidth k ks wide in
    let one : Came c mem k o carries.0 =
    came {S = S} c config x mem sized f shows page w o carries.0 k legal are.0 carries.1 in
    let first : List Record = owed me (Some k) (reply_of o) in
    let led : ServesAll c mem first one.new =
    owed-leads c mem one.new me k (reply_of o) here legal one.gives in
    let rest : CameAll c one.new me ks os flat =
    came_all S was c config x me one.new (leads_sized c mem one.new first config sized led) carries.0
    one.shows here page ks ws os flat (All-tail HasWidth k ks wide) are.2 carries.2 in
    record {
      new = rest.new;
      legal = leads-append c mem one.new rest.new first (owed_along me ks os) led
          rest.legal;
      shows = rest.shows;
      blocks = rest.blocks ∙ one.blocks;
    }

-- and have replies
pub have-replies : (S : Type 0) (was : ℕ → ℕ → Entry) (c : Config) (x page : ℕ) (calls : List Call) (words : List Word)
    (f : ℕ → List ℕ) (outs : List Out) (flat : ℕ → List ℕ) → AreWordsOf c page calls words
    → CarriesAll (Copies {S = S} c) was c x f page words outs flat → HaveReplies calls outs
have-replies S was c x page [] words f outs flat are carries = tt
have-replies S was c x page (k ∷ ks) [] f outs flat are carries = absurd are
have-replies S was c x page (k ∷ ks) (w ∷ ws) f [] flat are carries = absurd carries
have-replies S was c x page (k ∷ ks) (w ∷ ws) f (o ∷ os) flat are carries = (
  subst IsReply (sym carries.1.gives) (reply-given w (carries.1.net.page x page) are.1),
  have-replies S was c x page ks ws carries.0 os flat are.2 carries.2,
)
