use Rattle.std.proofs.Common.{◌≡◌, ◌∙◌, ◌∷◌, ◌++◌, [], List, ℕ, length, drop, ap, refl, sym, ◌+◌, arith}
use Rattle.std.proofs.lemmas.List.{drop-drop}
use Rattle.byteorder.specs.Endian.{big_bytes}
use Rattle.ivy_wire.specs.Heads.{body_head, content_head}
use Rattle.ivy_wire.specs.Lent.{owned_body, owned_content}
use Rattle.ivy_wire.proofs.Writes.{one_write, first_write}
use Rattle.ivy_wire.proofs.writing.write_body.Goals as goal

pub returns-in-Some : goal.returns-in-Some
returns-in-Some c =
    let out : List ℕ = c.args.out.now in
    let call : List ℕ = big_bytes 8 c.in-Some.message.call in
    let head : List ℕ = content_head (owned_content c.in-Some.message.content) in
    let front : List ℕ = (c.in-Some.message.origin ∷ []) ++ call in
    let long : 9 + length head ≡ length (front ++ head) = omega arith in
    one_write 9 (length head) front _ (drop 8 (drop 1 out)) _ head
    (one_write 1 8 (c.in-Some.message.origin ∷ []) _ (drop 1 out) _ call
    (first_write out c.in-Some.message.origin (omega arith)) refl c.write_u64.ensures) refl
    c.write_content.ensures
    ∙ ap (λ (t : List ℕ). (front ++ head) ++ drop (length head) t) (drop-drop 8 1 out)
    ∙ ap (λ (t : List ℕ). (front ++ head) ++ t)
    (drop-drop (length head) 9 out ∙ ap (λ n. drop n out) long)
    ∙ ap (λ m. body_head (owned_body m) ++ drop (length (body_head (owned_body m))) out)
    (sym c.in-Some.is)
