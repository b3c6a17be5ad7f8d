use Rattle.std.proofs.Common.{◌≡◌, IfOk, ap, subst, sym, ◌∙◌}
use Rattle.hash_bucket.specs.Hashed.{Hashed}
use Rattle.imm_base.specs.Order.{eq_hash}
use Rattle.imm_base.specs.declared.val.Val.{Val}
use Rattle.imm_base.specs.declared.comparers.ValEq.{ValEq}
use Rattle.imm_dictionary.specs.Mapped.{Mapped}
use Rattle.plain_model.specs.declared.plain.Plain.{Plain}
use Rattle.plain_model.specs.Locals.{walk_order}
use Rattle.plain_model.specs.Places.{start_of}
use Rattle.collections.specs.Reprs.{plain_of}
use Rattle.enumerators.specs.Orders.{values_by_hash, pairs_by_hash}
use Rattle.collection_walks.proofs.rests.rest_of.Goals as goal

pub returns-in_ok-share-in-HSet : goal.returns-in_ok-share-in-HSet
returns-in_ok-share-in-HSet c =
    let result = c.rest-in-HSet.result in
    let is = sym (ap plain_of c.in-HSet.is) ∙ c.repr.ensures in
    let shared = subst (λ (s : Hashed Val ValEq). IfOk result (λ rest. rest ≡ start_of (values_by_hash (eq_hash s.eq) s.items))) c.in_ok-share-in-HSet.ensures c.rest-in-HSet.ensures.start in
    subst (λ (p : Plain). IfOk result (λ rest. rest ≡ start_of (walk_order p.kind p.values))) is shared

pub returns-in_ok-share-in-Dict : goal.returns-in_ok-share-in-Dict
returns-in_ok-share-in-Dict c =
    let result = c.rest-in-Dict.result in
    let is = sym (ap plain_of c.in-Dict.is) ∙ c.repr.ensures in
    let shared = subst (λ (m : Mapped Val Val ValEq). IfOk result (λ rest. rest ≡ start_of (pairs_by_hash (eq_hash m.eq) m.pairs))) c.in_ok-share-in-Dict.ensures c.rest-in-Dict.ensures.start in
    subst (λ (p : Plain). IfOk result (λ rest. rest ≡ start_of (walk_order p.kind p.values))) is shared
