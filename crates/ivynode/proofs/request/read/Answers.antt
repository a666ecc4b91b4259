-- A command is one word alone.
use Rattle.std.proofs.Common.{◌≡◌, ℕ, ◌<◌, List, [], ◌∷◌, Some, String, Global, map, length, get_or, string_bytes, slice_get, codes, arith}
use Rattle.ivynode.proofs.request.read.Goals as goal

-- the bytes of the second word, where the list of the bytes of all words has these there
second-is : (words : List (String Global)) (w : String Global) (text bytes : List ℕ) → 1 < length words
    → w ≡ get_or words 1 w → text ≡ string_bytes w
    → slice_get (map (λ w. string_bytes w) words) 1 ≡ Some bytes → text ≡ bytes
second-is [] w text bytes within got is asked = absurd (omega arith)
second-is (x ∷ []) w text bytes within got is asked = absurd (omega arith)
second-is (x ∷ y ∷ rest) w text bytes within got is asked = cc

-- what another command gives does not matter
other : {A : Type 0} (words : List (String Global)) (w : String Global) (text bytes given : List ℕ)
    → 1 < length words → w ≡ get_or words 1 w → text ≡ string_bytes w → text ≡ given → (given ≡ bytes → ⊥)
    → slice_get (map (λ w. string_bytes w) words) 1 ≡ Some bytes → A
other words w text bytes given within got is are differ asked =
    let e = second-is words w text bytes within got is asked in
    absurd (differ (cc))

pub returns-in-run : goal.returns-in-run
returns-in-run c = record {
  joins = other c.args.words.now c.in-Some.command.now c.as_str.result.now (codes "join") (codes "run")
      c.in-Some.ensures.lookup.3.0
      c.in-Some.ensures.lookup.1 c.as_str.ensures.value c.in-run.is (λ e. cc);
  own = other c.args.words.now c.in-Some.command.now c.as_str.result.now (codes "join-own") (codes "run")
      c.in-Some.ensures.lookup.3.0
      c.in-Some.ensures.lookup.1 c.as_str.ensures.value c.in-run.is (λ e. cc);
}

pub returns-in-join : goal.returns-in-join
returns-in-join c = record {
  joins = λ asked. c.join.ensures;
  own = other c.args.words.now c.in-Some.command.now c.as_str.result.now (codes "join-own") (codes "join")
      c.in-Some.ensures.lookup.3.0
      c.in-Some.ensures.lookup.1 c.as_str.ensures.value c.in-join.is (λ e. cc);
}

pub returns-in-text : goal.returns-in-text
returns-in-text c = record {
  joins = other c.args.words.now c.in-Some.command.now c.as_str.result.now (codes "join") (codes "join-own")
      c.in-Some.ensures.lookup.3.0
      c.in-Some.ensures.lookup.1 c.as_str.ensures.value c.in-text.is (λ e. cc);
  own = λ asked. c.join_own.ensures;
}

pub returns-in-router : goal.returns-in-router
returns-in-router c = record {
  joins = other c.args.words.now c.in-Some.command.now c.as_str.result.now (codes "join") (codes "router")
      c.in-Some.ensures.lookup.3.0
      c.in-Some.ensures.lookup.1 c.as_str.ensures.value c.in-router.is (λ e. cc);
  own = other c.args.words.now c.in-Some.command.now c.as_str.result.now (codes "join-own") (codes "router")
      c.in-Some.ensures.lookup.3.0
      c.in-Some.ensures.lookup.1 c.as_str.ensures.value c.in-router.is (λ e. cc);
}

pub returns-in-text-2 : goal.returns-in-text-2
returns-in-text-2 c = record {
  joins = λ asked. c.in-text-2.not-join (second-is c.args.words.now c.in-Some.command.now c.as_str.result.now (codes "join")
      c.in-Some.ensures.lookup.3.0
      c.in-Some.ensures.lookup.1 c.as_str.ensures.value asked);
  own = λ asked. c.in-text-2.not-text (second-is c.args.words.now c.in-Some.command.now c.as_str.result.now (codes "join-own")
      c.in-Some.ensures.lookup.3.0
      c.in-Some.ensures.lookup.1 c.as_str.ensures.value asked);
}

pub returns-in-text-3 : goal.returns-in-text-3
returns-in-text-3 c = record {
  joins = λ asked. c.in-text-3.not-join (second-is c.args.words.now c.in-Some.command.now c.as_str.result.now (codes "join")
      c.in-Some.ensures.lookup.3.0
      c.in-Some.ensures.lookup.1 c.as_str.ensures.value asked);
  own = λ asked. c.in-text-3.not-text (second-is c.args.words.now c.in-Some.command.now c.as_str.result.now (codes "join-own")
      c.in-Some.ensures.lookup.3.0
      c.in-Some.ensures.lookup.1 c.as_str.ensures.value asked);
}

pub returns-in_default-as_str : goal.returns-in_default-as_str
returns-in_default-as_str c = record {
  joins = λ asked. tt;
  own = λ asked. tt;
}
