-- One answer more.
use Rattle.std.proofs.Common.{◌≡◌, ⊎_elim, ℕ, List, [], ◌∷◌, ◌++◌, Option, length, get_or, sym, ap, ◌∙◌, subst}
use lib.ListN.{get_elem?}
use Rattle.imm_base.specs.declared.val.Val.{Val}
use Rattle.imm_base.specs.declared.comparers.ValEq.{ValEq}
use Rattle.imm_dictionary.specs.Mapped.{Mapped}
use Rattle.version_slots.proofs.Shares.{at_end}
use Rattle.registry.specs.declared.command.Answer.{Answer}
use Rattle.registry.specs.declared.command.Command.{Command}
use Rattle.registry.specs.declared.requests.Response.{Response}
use Rattle.registry.specs.Registry.{AreAnswers, IsAnswerTo}
use Rattle.registry.specs.Requests.{Has}
use Rattle.registry.proofs.Places.{is_at}

pub one_more : (asked : List Command) (came : List (Option (Response (Mapped Val Val ValEq)))) (given given' : List Answer) (index : ℕ) (command : Command) (response : Option (Response (Mapped Val Val ValEq))) (one : Answer)
    → length given ≡ index → command ≡ get_or asked index command → response ≡ get_or came index response → IsAnswerTo command response one → given' ≡ given ++ one ∷ [] → AreAnswers asked came given → AreAnswers asked came given'
one_more asked came given given' index command response one long command_is response_is answer more h = record {
  each = λ k c r o e f g. ⊎_elim
      (λ (before : Has given k o). h.each k c r o e f before)
      (λ (last : (k ≡ length given) × (one ≡ o)).
      let here : k ≡ index = last.0 ∙ long in
      let c_is : command ≡ c = command_is ∙ is_at asked index c command (ap (λ (n : ℕ). get_elem? asked n) (sym here) ∙ e) in
      let r_is : response ≡ r = response_is ∙ is_at came index r response (ap (λ (n : ℕ). get_elem? came n) (sym here) ∙ f) in
      subst (λ (t : Command × Option (Response (Mapped Val Val ValEq)) × Answer). IsAnswerTo t.0 t.1 t.2) (λ i. (c_is i, r_is i, last.1 i)) answer)
      (at_end given one o k (ap (λ (l : List Answer). get_elem? l k) (sym more) ∙ g));
}
