-- What a post is: its calls over what contracts see of it, the laws that its callers rest on, and
-- what a call that posts comes to. The post was `post` and is `then`.
use Rattle.std.specs.Prelude.{◌≡◌, ℕ, List, [], Result, OnOk, IfErr}
use Rattle.ivy_model.specs.declared.Config.{Config}
use Rattle.ivy_model.specs.declared.Fault.{Fault}
use Rattle.ivy_model.specs.Wants.{RanOut}
use Rattle.ivy_wire.specs.stated.Data.{Parcel}

-- `config` is the configuration of the nodes, and `node` the one whose messages are taken. `takes`
-- says that there is a place for a list, memory aside, and `after` what the post is once it took
-- one. `refuses` says that it may refuse a list with a fault, and `after_refusal` what it is then:
-- code that is generic in its post has such a fault, and such a post, from a refusal alone.
pub record PostOps (P : Type 0) : Type 1 where
  pub config : P → Config
  pub node : P → ℕ
  pub takes : P → List Parcel → Type 0
  pub after : P → List Parcel → P
  pub refuses : P → List Parcel → Fault → Type 0
  pub after_refusal : P → List Parcel → Fault → P

-- the laws that the callers of a post rest on
pub record PostLaws {P : Type 0} (ops : PostOps P) : Type 0 where
  -- there is always a place for a list of none, which changes nothing and is never refused
  pub takes_none : (post : P) → ops.takes post []
  pub after_none : (post : P) → ops.after post [] ≡ post
  pub refuses_none : (post : P) (f : Fault) → ops.refuses post [] f → ⊥
  -- having refused, it is still the post of this node under this configuration
  pub same_config : (post : P) (ps : List Parcel) (f : Fault)
      → ops.config (ops.after_refusal post ps f) ≡ ops.config post
  pub same_node : (post : P) (ps : List Parcel) (f : Fault)
      → ops.node (ops.after_refusal post ps f) ≡ ops.node post

-- it is the post of this node under this configuration
pub record IsPostOf {P : Type 0} (ops : PostOps P) (post : P) (c : Config) (me : ℕ) : Type 0 where
  pub config : ops.config post ≡ c
  pub node : ops.node post ≡ me

-- the post was asked once, for these messages, and refused them with this fault
abbrev pub HasRefused : {P : Type 0} → PostOps P → P → P → List Parcel → Fault → Type 0
HasRefused ops post then messages fault =
    ops.refuses post messages fault × (then ≡ ops.after_refusal post messages fault)

-- the post took all of these messages, in order; or it refused them all
pub record HasPosted {P A : Type 0} (ops : PostOps P) (post then : P) (r : Result A Fault)
    (messages : List Parcel) : Type 0 where
  pub posted : OnOk r (then ≡ ops.after post messages)
  pub took : OnOk r (ops.takes post messages)
  pub fault : IfErr r (HasRefused ops post then messages)
  pub want : IfErr r RanOut
