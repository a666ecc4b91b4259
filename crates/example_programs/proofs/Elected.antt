-- All nodes name the same one.
use Rattle.std.proofs.Common.{◌≡◌, ◌≢◌, ℕ, zero, suc, ◌+◌, ◌-◌, ◌%◌, ◌^◌, ◌<◌, ◌≤◌, cond, List, [], ◌∷◌, length, slice_get, Some, None, refl, sym, ap, subst, ◌∙◌, arith, mod-eq_of_lt}
use Rattle.std.specs.Prelude.{◌==◌, if◌then◌else◌}
use Rattle.std.specs.List.{AllByRecursion as Each, slice_index_or}
use Rattle.std.proofs.lemmas.Bool.{ne_eqb}
use Rattle.ivy_model.specs.declared.config.Config.{Config}
use Rattle.ivy_model.specs.declared.call.Call.{Call}
use Rattle.ivy_model.specs.declared.call.Call.TheVariants.{Cas}
use Rattle.ivy_model.specs.declared.call.Record.{Record}
use Rattle.ivy_model.specs.declared.call.Reply.{Reply}
use Rattle.ivy_model.specs.declared.call.Reply.TheVariants.{Value}
use Rattle.ivy_model.specs.stated.Memory.{first}
use Rattle.ivy_calls.specs.declared.answer.Answer.{Answer}
use Rattle.ivy_calls.specs.Answers.{answers, answers_of}
use Rattle.ivy_calls.specs.Shared.{AreShared}
use Rattle.ivy_sync.specs.excluding.Registers.{ReadsTheLast}
use Rattle.ivy_sync.specs.HeapWords.{IsHeapWord, IsWhole, put_over, word_after}
use Rattle.ivy_sync.proofs.answers.Cuts.{all_parts, nodes_there, part_all}
use Rattle.ivy_sync.proofs.answers.First.{first_run, first_word}
use Rattle.ivy_sync.proofs.answers.Lists.{all_weaker}
use Rattle.ivy_sync.proofs.excluding.Locked.{in_own}
use Rattle.ivy_sync.proofs.excluding.Registers.{reads_all}
use Rattle.example_programs.specs.Election.{claims, HasVoted, NameOne, AllNameOne}

-- whom an answer names
abbrev elects : Call → Reply → ℕ
elects (Cas width a expected own) (Value found) = if found == 0 then own - 1 else found - 1
elects _ _ = 0

abbrev Names : ℕ → Answer → Type 0
Names leader r = elects r.call r.reply ≡ leader

-- the answer is of a claim of one of so many nodes
record IsClaim (n a : ℕ) (r : Answer) : Type 0 where
  me : ℕ
  node : me < n
  found : ℕ
  is : r ≡ claims a me found

claim_whole : (n a : ℕ) (r : Answer) → IsClaim n a r → IsWhole a r.call
claim_whole n a r w = subst (λ (q : Answer). IsWhole a q.call) (sym w.is) (λ _. (refl, refl))

-- the first claim leaves its node in the word
first_claim : (a me : ℕ) → me < 32 → word_after a 0 (Cas 8 a 0 (me + 1)) ≡ me + 1
first_claim a me few =
    ap (λ b. cond b ((me + 1) % 2 ^ 64) 0) (in_own a) ∙ mod-eq_of_lt (omega (arith, few))

-- a later one leaves who is there
later_claim : (a v me : ℕ) → v ≢ 0 → word_after a v (Cas 8 a 0 (me + 1)) ≡ v
later_claim a v me there =
    ap (λ b. cond b (put_over v (cond (v == 0) (Some (me + 1)) None)) v) (in_own a)
    ∙ ap (λ b. put_over v (cond b (Some (me + 1)) None)) (ne_eqb v 0 there)

-- so all later ones name who is there
later : (n a v : ℕ) (rs : List Answer) → v ≢ 0 → Each (IsClaim n a) rs → ReadsTheLast a v rs
    → Each (Names (v - 1)) rs
later n a v [] there h reads = tt
later n a v (r ∷ rs) there h reads =
    let me : ℕ = h.0.me in
    let found : ℕ = h.0.found in
    let own : ReadsTheLast a v (claims a me found ∷ rs) =
    subst (λ (q : Answer). ReadsTheLast a v (q ∷ rs)) h.0.is reads in
    let same : Value found ≡ Value v = own.0 (refl, refl, refl) in
    let number : found ≡ v = cc in
    let names : (if found == 0 then me + 1 - 1 else found - 1) ≡ v - 1 =
    ap (λ b. if b then me + 1 - 1 else found - 1) (ne_eqb found 0 (λ none. there (sym number
    ∙ none)))
    ∙ ap (λ x. x - 1) number in (
      subst (Names (v - 1)) (sym h.0.is) names,
      later n a v rs there h.1
          (subst (λ x. ReadsTheLast a x rs) (later_claim a v me there) own.1),
    )

-- there is one of the nodes that all name
record HasLeader (n : ℕ) (rs : List Answer) : Type 0 where
  leader : ℕ
  node : leader < n
  named : Each (Names leader) rs

one : (n a : ℕ) (rs : List Answer) → 0 < n → n ≤ 32 → Each (IsClaim n a) rs → ReadsTheLast a 0 rs
    → HasLeader n rs
one n a [] some few h reads = record { leader = 0; node = some; named = tt }
one n a (r ∷ rs) some few h reads =
    let me : ℕ = h.0.me in
    let node = h.0.node in
    let found : ℕ = h.0.found in
    let own : ReadsTheLast a 0 (claims a me found ∷ rs) =
    subst (λ (q : Answer). ReadsTheLast a 0 (q ∷ rs)) h.0.is reads in
    let same : Value found ≡ Value 0 = own.0 (refl, refl, refl) in
    let number : found ≡ 0 = cc in
    let less : me + 1 - 1 ≡ me = omega arith in
    let names : (if found == 0 then me + 1 - 1 else found - 1) ≡ me =
    ap (λ (x : ℕ). if x == 0 then me + 1 - 1 else x - 1) number ∙ less in
    let rest : Each (Names (me + 1 - 1)) rs =
    later n a (me + 1) rs (λ none. absurd (omega (arith, none))) h.1
    (subst (λ x. ReadsTheLast a x rs) (first_claim a me (omega (arith, node, few))) own.1) in
    record {
      leader = me;
      node = node;
      named = (subst (Names me) (sym h.0.is) names, subst (λ x. Each (Names x) rs) less rest);
    }

item_at : (xs : List ℕ) (k d : ℕ) → k < length xs → slice_get xs k ≡ Some (slice_index_or xs k d)
item_at [] k d h = absurd (omega (arith, h))
item_at (x ∷ xs) zero d h = refl
item_at (x ∷ xs) (suc k) d h = item_at xs k d (omega (arith, h))

module _ (c : Config) (a : ℕ) (order : List Record) (outs : List ℕ) (at : IsHeapWord c a)
    (shared : AreShared c (HasVoted a) order outs) where
  voted : (i d : ℕ) → i < length outs → HasVoted a i (answers_of i order) (slice_index_or outs i d)
  voted i d less = shared.each i (slice_index_or outs i d) (item_at outs i d less)

  claim_of : (i : ℕ) → i < c.nodes → Each (IsClaim c.nodes a) (answers_of i order)
  claim_of i less =
      let all = shared.all in
      let own = voted i 0 (omega (arith, all, less)) in
      subst (Each (IsClaim c.nodes a)) (sym own.whole)
      (record { me = i; node = less; found = own.found; is = refl }, tt)

  claimed : Each (IsClaim c.nodes a) (answers order)
  claimed =
      all_parts (IsClaim c.nodes a) c.nodes order
      (nodes_there c (first c) shared.legal.0 order shared.legal.1)
      claim_of

  whole : Each (λ (r : Answer). IsWhole a r.call) (answers order)
  whole =
      all_weaker (IsClaim c.nodes a) (λ (r : Answer). IsWhole a r.call) (claim_whole c.nodes a)
      (answers order) claimed

  leads : HasLeader c.nodes (answers order)
  leads =
      let from = shared.config.nodes_from in
      one c.nodes a (answers order) (omega (arith, from)) shared.config.nodes_to claimed
      (subst (λ v. ReadsTheLast a v (answers order)) (first_word c a)
      (reads_all c (first c) shared.legal.0 order a
      (first_run c order shared.legal.0 shared.config shared.legal.1) at whole))

  named : (i d : ℕ) → i < length outs → slice_index_or outs i d ≡ leads.leader
  named i d less =
      let own = voted i d less in
      let less' : i + 1 - 1 ≡ i = omega arith in
      own.names ∙ ap (λ x. if own.found == 0 then x else own.found - 1) (sym less')
      ∙ (subst (Each (Names leads.leader)) own.whole
      (part_all (Names leads.leader) i order leads.named)).0

  pub all_name : NameOne c.nodes outs
  all_name = record {
    leader = leads.leader;
    node = leads.node;
    named = λ i d less. named i d less;
  }

pub all-name_one : AllNameOne
all-name_one c a order outs at shared = all_name c a order outs at shared
