-- What a site sent is among the strings again once they were collected after an event.
use Rattle.std.proofs.Common.{◌≡◌, ℕ, zero, suc, List, [], ◌∷◌, ◌++◌, set, slice_get, Contains, Some, refl, sym, ap, subst, ◌∙◌, inl, inr, ⊎_elim, arith}
use Rattle.std.specs.Prelude.{◌⊎◌, Bool, true, false, IsTrue, MatchBool}
use Rattle.std.proofs.lemmas.Option.{same_Some}
use Rattle.ivy_model.specs.stated.Config.{IsConfig}
use Rattle.std.proofs.lemmas.List.Elements.{Contains-append_right, Contains-append_cases}
use Rattle.ivy_model.specs.declared.Config.{Config}
use Rattle.ivy_moves.specs.Events.{Event}
use Rattle.ivy_moves.specs.Marks.{Mark, marks_of}
use Rattle.ivy_moves.specs.stated.Nodes.{Node, Effect}
use Rattle.ivy_moves.specs.Parts.{AllHappen}
use Rattle.ivy_moves.proofs.Places.{set-cases, set-elsewhere, set-there}
use Rattle.ivy_moves.proofs.Splitting.{all-split, none-in, same-effect}
use Rattle.ivy_host.specs.stated.Hosts.{Host, host_rules}
use Rattle.ivy_host.specs.stated.Managers.{Managed, managed_ops}
use Rattle.ivy_host.specs.stated.Openings.{first_node, managed_start}
use Rattle.ivy_site.specs.SiteView.{SiteView}
use Rattle.ivy_site.specs.Sites.{IsMadeByEvents}
use Rattle.ivy_join.specs.Exact.{HasSent, HaveSent, IsMadeAt, IsNeverAt, Makes, NeverHappen, SaysMade}
use Rattle.ivy_join.specs.ReplaySites.{program_in, listed, GoesOnBy, Sends}

-- one string is taken, and added
pub taken-one : (first old new : List (List ℕ)) (sent sent' : List (List ℕ)) (string : List ℕ)
    → ((b : List ℕ) → Contains first b → Contains sent b ⊎ Contains old b) → old ≡ string ∷ new
    → ((b : List ℕ) → Contains sent b → Contains sent' b) → Contains sent' string
    → (b : List ℕ) → Contains first b → Contains sent' b ⊎ Contains new b
taken-one first old new sent sent' string before steps kept there b own = elim (before b own) [
  | inl was ↦ inl (kept b was)
  | inr waits ↦ elim (split string new b (subst (λ l. Contains l b) steps waits)) [
    | inl is ↦ inl (subst (Contains sent') is there)
    | inr later ↦ inr later
  ]
]
  where
    split : (x : List ℕ) (xs : List (List ℕ)) (b : List ℕ) → Contains (x ∷ xs) b
        → (x ≡ b) ⊎ Contains xs b
    split x xs b (zero, below, is) = inl is
    split x xs b (suc i, below, is) = inr (i, omega (arith, below), is)

pub taken_all : (first old : List (List ℕ)) (sent : List (List ℕ))
    → ((b : List ℕ) → Contains first b → Contains sent b ⊎ Contains old b) → old ≡ []
    → (b : List ℕ) → Contains first b → Contains sent b
taken_all first old sent before none b own = elim (before b own) [
  | inl was ↦ was
  | inr waits ↦ absurd (none-in b (subst (λ l. Contains l b) none waits))
]

-- a site goes on by an event, and what it sends is collected
module _ (old mid new : SiteView) (sent sent' : List (List ℕ)) (ms : List Mark) (was : IsMadeByEvents old)
    (has : HasSent sent old) (on : GoesOnBy sent old mid) (listed-more : mid.events ≡ old.events ++ ms)
    (makes : Makes ms old mid) (same : record new { waiting = [] } ≡ record mid { waiting = [] })
    (kept : (b : List ℕ) → Contains sent b → Contains sent' b)
    (taken : (b : List ℕ) → Contains mid.waiting b → Contains sent' b) (none : new.waiting ≡ []) where
  abbrev first : Node (Host Managed)
  first = first_node (managed_start old.opened) old.config old.me (program_in old)

  -- what its events sent before, or now
  sent-mid : (b : List ℕ) → Sends mid b → Contains sent' b
  sent-mid b (effect, happen, own) =
      let all : AllHappen (host_rules managed_ops) old.config first (old.events ++ ms) effect =
      subst (λ l. AllHappen (host_rules managed_ops) old.config first l effect) listed-more
      (subst (λ p. AllHappen (host_rules managed_ops) old.config
      (first_node (managed_start old.opened) old.config old.me p) mid.events effect) on.program
      (subst (λ i. AllHappen (host_rules managed_ops) old.config
      (first_node (managed_start old.opened) old.config i (program_in mid)) mid.events effect) on.me
      (subst (λ (k : Config). AllHappen (host_rules managed_ops) k
      (first_node (managed_start old.opened) k mid.me (program_in mid)) mid.events effect) on.config
      (subst (λ k. AllHappen (host_rules managed_ops) mid.config
      (first_node (managed_start k) mid.config mid.me (program_in mid)) mid.events effect) on.opened
      happen)))) in
      let split = all-split (host_rules managed_ops) old.config first old.events ms effect all in
      let before : split.first ≡ was.effect =
      same-effect (host_rules managed_ops) old.config first old.events split.first was.effect split.happen
      was.happen in
      let node : split.first.after ≡ old.node =
      ap (λ (e : Effect (Host Managed)). e.after) before ∙ sym was.node in
      let now : split.rest ≡ makes.effect =
      same-effect (host_rules managed_ops) old.config old.node ms split.rest makes.effect
      (subst (λ n. AllHappen (host_rules managed_ops) old.config n ms split.rest) node split.go_on)
      makes.happen in
      let text : effect.sent ≡ split.first.sent ++ split.rest.sent =
      ap (λ (e : Effect (Host Managed)). e.sent) split.whole in
      elim (Contains-append_cases split.first.sent split.rest.sent b (subst (λ l. Contains l b) text own)) [
        | inl earlier ↦ kept b (has.all b (split.first, split.happen, earlier))
        | inr later ↦
            taken b
            (subst (λ l. Contains l b) (sym makes.waiting)
            (Contains-append_right old.waiting makes.effect.sent b
            (subst (λ (e : Effect (Host Managed)). Contains e.sent b) now later)))
      ]

  pub has-sent : HasSent sent' new
  has-sent = record {
    none = none;
    all = λ b own. sent-mid b
        (subst (λ (x : SiteView). Sends x b) same
        (let here : Sends (record new { waiting = [] }) b = own in here));
  }

-- so it is for all sites, and what they list
module _ (sites : List SiteView) (node : ℕ) (event : Event) (old mid new : SiteView)
    (sent sent' : List (List ℕ)) (there : slice_get sites node ≡ Some old) (was : IsMadeByEvents old)
    (have : HaveSent sent sites) (on : GoesOnBy sent old mid)
    (listed-more : mid.events ≡ old.events ++ marks_of event) (makes : Makes (marks_of event) old mid)
    (same : record new { waiting = [] } ≡ record mid { waiting = [] })
    (kept : (b : List ℕ) → Contains sent b → Contains sent' b)
    (taken : (b : List ℕ) → Contains mid.waiting b → Contains sent' b) (none : new.waiting ≡ []) where
  each : (i : ℕ) (s : SiteView) → slice_get (set sites node new) i ≡ Some s → HasSent sent' s
  each i s at =
      ⊎_elim
      (λ p. subst (HasSent sent') (sym p.1)
      (has-sent old mid new sent sent' (marks_of event) was (have node old there) on listed-more makes same
      kept taken none))
      (λ q. (let own = have i s q in record { none = own.none; all = λ b x. kept b (own.all b x) }))
      (set-cases sites node i new s at)

  pub made-at : IsMadeAt node (marks_of event) sites (set sites node new) sent'
  made-at = record {
    have = each;
    here = ap listed (set-there sites node new old there)
        ∙ ap (λ (x : SiteView). x.events) same ∙ listed-more
        ∙ ap (λ l. l ++ marks_of event) (sym (ap listed there));
    elsewhere = λ i apart. ap listed (set-elsewhere sites node i new (λ e. apart (sym e)));
  }

-- or it can't make the event, and the call says so
pub step-says : (sites : List SiteView) (node : ℕ) (event : Event) (old mid new : SiteView)
    (sent sent' : List (List ℕ)) (happens : Bool) → slice_get sites node ≡ Some old → IsMadeByEvents old
    → IsConfig old.config → HaveSent sent sites → GoesOnBy sent old mid
    → (IsTrue happens → mid.events ≡ old.events ++ marks_of event)
    → SaysMade (marks_of event) old mid happens
    → record new { waiting = [] } ≡ record mid { waiting = [] }
    → ((b : List ℕ) → Contains sent b → Contains sent' b)
    → ((b : List ℕ) → Contains mid.waiting b → Contains sent' b) → new.waiting ≡ []
    → MatchBool happens (IsMadeAt node (marks_of event) sites (set sites node new) sent') (IsNeverAt node (marks_of event) sites)
step-says sites node event old mid new sent sent' true there was limits have on more says same kept taken none =
    made-at sites node event old mid new sent sent' there was have on (more refl) (says limits) same kept taken
    none
step-says sites node event old mid new sent sent' false there was limits have on more says same kept taken none =
    λ s at. subst (λ (x : SiteView). NeverHappen x.config x.me x.node (marks_of event))
    (same_Some old s (sym there ∙ at)) (says limits (have node old there).none)
