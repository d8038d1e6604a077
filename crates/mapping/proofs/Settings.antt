-- What a text sets, by the code's comparisons. Assumes nothing.
use Rattle.std.proofs.Common.{◌≡◌, ℕ, Bool, true, false, ◌&&◌, ◌⊎◌, List, [], ◌∷◌, ◌++◌, Some, None, refl, sym, ap, ◌∙◌, ⊎_elim, nat_eq}
use lib.Pointwise.{pointwise}
use Rattle.mapping.specs.Calls.{allow_text, deny_text, same_bytes, is_word, setting_in}

-- the library compares as the definition does
pointwise_same : (a b : List ℕ) → pointwise nat_eq a b ≡ same_bytes a b
unfolding same_bytes
pointwise_same [] [] = refl
pointwise_same [] (b ∷ y) = refl
pointwise_same (a ∷ x) [] = refl
pointwise_same (a ∷ x) (b ∷ y) = ap (λ t. nat_eq a b && t) (pointwise_same x y)

-- a comparison with a word's bytes, and its answer
pub compared : (text bytes word : List ℕ) (r t : Bool) → r ≡ pointwise nat_eq text bytes → bytes ≡ word → r ≡ t → same_bytes text word ≡ t
compared text bytes word r t e w q = sym (pointwise_same text word) ∙ ap (pointwise nat_eq text) (sym w) ∙ sym e ∙ q

module _ (text word : List ℕ) where
  abbrev pub Whole : Bool → Type 0
  Whole t = same_bytes text word ≡ t

  abbrev pub Line : Bool → Type 0
  Line t = same_bytes text (word ++ (10 ∷ [])) ≡ t

  pub is_word_yes : (Whole true) ⊎ (Whole false × Line true) → is_word text word ≡ true
  unfolding is_word
  is_word_yes s = ⊎_elim (λ w. rw w) (λ p. rw (p.0, p.1)) s

  pub is_word_no : Whole false → Line false → is_word text word ≡ false
  unfolding is_word
  is_word_no w l = rw (w, l)

module _ (text : List ℕ) where
  pub sets_deny : is_word text deny_text ≡ true → Some true ≡ setting_in text
  unfolding setting_in
  sets_deny d = rw d

  pub sets_allow : is_word text deny_text ≡ false → is_word text allow_text ≡ true → Some false ≡ setting_in text
  unfolding setting_in
  sets_allow d a = rw (d, a)

  pub sets_nothing : is_word text deny_text ≡ false → is_word text allow_text ≡ false → None ≡ setting_in text
  unfolding setting_in
  sets_nothing d a = rw (d, a)
