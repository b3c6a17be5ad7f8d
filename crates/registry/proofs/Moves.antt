-- Things that are taken from the end of one list, and what is made of them is put to the end of another.
use Rattle.std.proofs.Common.{◌≡◌, List, [], ◌∷◌, ◌++◌, append-nil, append_assoc, map, reverse, sym, ap, ◌∙◌}
use Rattle.std.proofs.lemmas.List.{map-append, reverse-append}

module _ {A B : Type 0} (f : A → B) where
  pub record Moves (all rest : List A) (done : List B) : Type 0 where
    pub same : map f all ≡ map f rest ++ reverse done

  pub moves_none : (all : List A) (done : List B) → done ≡ [] → Moves all all done
  moves_none all done none = record { same = sym (append-nil (map f all)) ∙ ap (λ (l : List B). map f all ++ reverse l) (sym none) }

  pub moves_one : (all rest rest' : List A) (a : A) (done done' : List B) (b : B) → rest ≡ rest' ++ a ∷ [] → done' ≡ done ++ b ∷ [] → b ≡ f a → Moves all rest done → Moves all rest' done'
  moves_one all rest rest' a done done' b taken put is h =
      let front : map f rest ≡ map f rest' ++ f a ∷ [] = ap (map f) taken ∙ map-append f rest' (a ∷ []) in
      let back : reverse done' ≡ f a ∷ reverse done = ap reverse put ∙ (reverse-append done (b ∷ []) ∙ ap (λ (x : B). x ∷ reverse done) is) in
      record {
        same = h.same ∙ (ap (λ (l : List B). l ++ reverse done) front ∙ (append_assoc (map f rest') (f a ∷ []) (reverse done) ∙ ap (λ (l : List B). map f rest' ++ l) (sym back)));
      }

  pub moved_all : (all rest : List A) (done turned : List B) → Moves all rest done → rest ≡ [] → turned ≡ reverse done → turned ≡ map f all
  moved_all all rest done turned h none is = is ∙ sym (h.same ∙ ap (λ (l : List A). map f l ++ reverse done) none)
