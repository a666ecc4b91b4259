-- Calls in a row of own code: made one after another, each answered in its first turn; or made
-- together, so that their replies are taken later.
use Rattle.std.proofs.Common.{◌≡◌, ℕ, ◌+◌, Bool, true, false, List, [], ◌∷◌, ◌++◌, append-nil, append_assoc, Some, refl, sym, ap, subst, ◌∙◌}
use Rattle.std.specs.Prelude.{Result, Ok, Err, MatchResult}
use Rattle.ivy_model.specs.declared.Call.{Call}
use Rattle.ivy_model.specs.declared.Fault.{Fault}
use Rattle.ivy_model.specs.declared.Record.{Record}
use Rattle.ivy_model.specs.declared.Row.{Row}
use Rattle.ivy_model.specs.declared.Row.TheVariants.{Loads, Stores}
use Rattle.ivy_model.specs.Rows.{record_in, row}
use Rattle.ivy_calls.specs.declared.answer.Answer.{Answer}
use Rattle.ivy_calls.specs.Answers.{answer, answers}
use Rattle.ivy_calls.specs.BlockAnswers.{in_row}
use Rattle.ivy_own.specs.Known.{Listed}
use Rattle.ivy_site.specs.SiteView.{SiteView}
use Rattle.ivy_seating.specs.Places.{SeatedState}
use Rattle.ivy_site.specs.Handed.{site_fetching, site_handed}
use Rattle.ivy_site.specs.Calls.{AfterFetch, AreAnswered, AreTaken, BeginsRow}
use Rattle.ivy_own.specs.OwnSeats.{IsOwned, AnswersMore, grown_by}
use Rattle.ivy_own.proofs.Owning.{call_made, more_owned, recorded_more, recorded_none}

-- what a word of a row is answered does not tell whose it is
same-answer : (kind : Row) (i j addr number : ℕ)
    → answer (record_in kind i addr number) ≡ answer (record_in kind j addr number)
same-answer Loads i j addr number = refl
same-answer Stores i j addr number = refl

none_more : (old new : SiteView) → new ≡ old → AnswersMore [] old new
none_more old new same =
    subst (AnswersMore [] old) (sym same)
    (record { me = refl; answers = sym (append-nil (answers old.node.core.history)) })

-- the answer to one word more, and then those to the others
one_more : (kind : Row) (node addr number : ℕ) (more : List ℕ) (old mid new : SiteView)
    → AnswersMore (answer (record_in kind node addr number) ∷ []) old mid
    → AnswersMore (in_row kind (addr + 8) more) mid new
    → AnswersMore (in_row kind addr (number ∷ more)) old new
one_more kind node addr number more old mid new first rest = record {
  me = rest.me ∙ first.me;
  answers = rest.answers
      ∙ ap (λ (l : List Answer). l ++ in_row kind (addr + 8) more) first.answers
      ∙ append_assoc (answers old.node.core.history) (answer (record_in kind node addr number) ∷ [])
      (in_row kind (addr + 8) more)
      ∙ ap (λ (a : Answer). answers old.node.core.history ++ a ∷ in_row kind (addr + 8) more)
      (same-answer kind node 0 addr number);
}

-- all calls of a row, as own code makes them one after another
row_answered : (kind : Row) (node addr : ℕ) (numbers : List ℕ) (old new : SiteView)
    → AreAnswered (row kind node addr numbers) old new
    → AnswersMore (in_row kind addr numbers) old new
row_answered kind node addr [] old new same = none_more old new same
row_answered kind node addr (number ∷ more) old new on =
    let r : Record = record_in kind node addr number in
    one_more kind node addr number more old on.0 new
    (call_made r.call (Some r.reply) old on.0 on.1)
    (row_answered kind node (addr + 8) more on.0 new on.2)

-- and as it takes their replies
row_taken : (kind : Row) (node addr : ℕ) (numbers : List ℕ) (old new : SiteView)
    → AreTaken (row kind node addr numbers) old new → AnswersMore (in_row kind addr numbers) old new
row_taken kind node addr [] old new same = none_more old new same
row_taken kind node addr (number ∷ more) old new on =
    one_more kind node addr number more old on.0 new
    (recorded_more (record_in kind node addr number) old on.0 on.1.turns on.1.recorded)
    (row_taken kind node (addr + 8) more on.0 new on.2)

-- so the half that has those answers more is the node's again
pub row_owned : (kind : Row) (addr : ℕ) (numbers : List ℕ) (old new : SiteView)
    (half half' : Listed Answer) → IsOwned old half
    → AreAnswered (row kind old.me addr numbers) old new
    → half' ≡ grown_by (in_row kind addr numbers) half → IsOwned new half'
row_owned kind addr numbers old new half half' owned on grows =
    more_owned (in_row kind addr numbers) old new half half' owned
    (row_answered kind old.me addr numbers old new on) grows

pub taken_owned : (kind : Row) (addr : ℕ) (numbers : List ℕ) (old new : SiteView)
    (half half' : Listed Answer) → IsOwned old half
    → AreTaken (row kind old.me addr numbers) old new
    → half' ≡ grown_by (in_row kind addr numbers) half → IsOwned new half'
taken_owned kind addr numbers old new half half' owned on grows =
    more_owned (in_row kind addr numbers) old new half half' owned
    (row_taken kind old.me addr numbers old new on) grows

-- with no answer more the half is the node's still
none_owned : (old new : SiteView) (half : Listed Answer) → IsOwned old half → AnswersMore [] old new
    → IsOwned new half
none_owned old new half owned m = record {
  number = owned.number ∙ sym m.me;
  list = owned.list ∙ sym (append-nil (answers old.node.core.history)) ∙ sym m.answers;
}

-- calls that begin together are answered later
begun_more : (calls : List Call) (old new : SiteView) → BeginsRow calls old new
    → AnswersMore [] old new
begun_more [] old new same = none_more old new same
begun_more (call ∷ more) old new b =
    let r : AnswersMore [] (site_handed ((call ∷ more) ∷ []) old) new =
    recorded_none (site_handed ((call ∷ more) ∷ []) old) new b.turns b.recorded in
    record { me = r.me; answers = r.answers }

-- nor is a page an answer that is asked for ahead
fetched_more : (begun : Bool) (page : ℕ) (write : Bool) (old new : SiteView)
    → AfterFetch begun page write old new → AnswersMore [] old new
fetched_more false page write old new f = none_more old new f.same
fetched_more true page write old new f =
    let r : AnswersMore [] (site_fetching page write old) new =
    recorded_none (site_fetching page write old) new f.turns f.recorded in
    record { me = r.me; answers = r.answers }

pub fetch_owned : (r : Result Bool Fault) (page : ℕ) (write : Bool) (old new : SeatedState)
    (half : Listed Answer) → IsOwned old.site half
    → MatchResult r (λ begun. AfterFetch begun page write old.site new.site) (λ _. new ≡ old)
    → IsOwned new.site half
fetch_owned (Ok begun) page write old new half owned f =
    none_owned old.site new.site half owned (fetched_more begun page write old.site new.site f)
fetch_owned (Err fault) page write old new half owned same =
    subst (λ (s : SeatedState). IsOwned s.site half) (sym same) owned

pub begun_owned : (calls : List Call) (old new : SiteView) (half : Listed Answer) → IsOwned old half
    → BeginsRow calls old new → IsOwned new half
begun_owned calls old new half owned b = none_owned old new half owned (begun_more calls old new b)
