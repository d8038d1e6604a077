-- Lines kept as words, four to a line: what a loop over them has left, and that the lines from one column to another are
-- those from the second to the first with their sides exchanged. Assumes nothing.
use Rattle.std.proofs.Common.{◌≡◌, ℕ, zero, suc, ◌+◌, ◌-◌, ◌%◌, ◌^◌, ◌<◌, ◌≤◌, List, [], ◌∷◌, map, length, get_or, drop, refl, ap, arith, length-drop, drop-cons}
use Rattle.idmap.specs.declared.Line.{Line}
use Rattle.idmap.specs.Line.{line_words, count_column, line_of, line_at, lines_by}
use Rattle.idmap.specs.Lookup.{flip}

-- four words from place i on
abbrev pub four_at : List ℕ → ℕ → List ℕ
four_at ws i = get_or ws i 0 ∷ get_or ws (suc i) 0 ∷ get_or ws (suc (suc i)) 0 ∷ get_or ws (suc (suc (suc i))) 0 ∷ []

-- the first four words, whose line is the first
abbrev pub four : List ℕ → List ℕ
four ws = get_or ws 0 0 ∷ get_or ws 1 0 ∷ get_or ws 2 0 ∷ get_or ws 3 0 ∷ []

pub lines_next : (from to : ℕ) (ws : List ℕ) → line_words ≤ length ws → lines_by from to ws ≡ line_of from to (four ws) ∷ lines_by from to (drop line_words ws)
unfolding lines_by
lines_next from to [] h = absurd (omega arith)
lines_next from to (a ∷ []) h = absurd (omega arith)
lines_next from to (a ∷ b ∷ []) h = absurd (omega arith)
lines_next from to (a ∷ b ∷ c ∷ []) h = absurd (omega arith)
lines_next from to (a ∷ b ∷ c ∷ d ∷ ws) h = refl

-- too few words for a line
pub lines_none : (from to : ℕ) (ws : List ℕ) → length ws < line_words → lines_by from to ws ≡ []
unfolding lines_by
lines_none from to [] h = refl
lines_none from to (a ∷ []) h = refl
lines_none from to (a ∷ b ∷ []) h = refl
lines_none from to (a ∷ b ∷ c ∷ []) h = refl
lines_none from to (a ∷ b ∷ c ∷ d ∷ ws) h = absurd (omega arith)

module _ (from to : ℕ) (ws : List ℕ) (i : ℕ) where
  -- the line that they hold is the one at place i
  pub line_is : from < line_words → to < line_words → line_of from to (four_at ws i) ≡ line_at from to ws i
  line_is f t = λ j. record { inside = word from f j % 2 ^ 32; parent = word to t j % 2 ^ 32; count = word count_column (omega arith) j % 2 ^ 32 }
    where
      word : (c : ℕ) → c < line_words → get_or (four_at ws i) c 0 ≡ get_or ws (i + c) 0
      word zero h = ap (λ (k : ℕ). get_or ws k 0) (omega arith)
      word (suc zero) h = ap (λ (k : ℕ). get_or ws k 0) (omega arith)
      word (suc (suc zero)) h = ap (λ (k : ℕ). get_or ws k 0) (omega arith)
      word (suc (suc (suc zero))) h = ap (λ (k : ℕ). get_or ws k 0) (omega arith)
      word (suc (suc (suc (suc c)))) h = absurd (omega arith)

  -- that line, and those after it
  pub lines_step : from < line_words → to < line_words → line_words ≤ length ws - i → lines_by from to (drop i ws) ≡ line_at from to ws i ∷ lines_by from to (drop (i + line_words) ws)
  unfolding lines_by
  lines_step f t h =
      let past : suc (suc (suc (suc i))) ≡ i + line_words = omega arith in
      rw (drop-cons ws i 0 (omega arith), drop-cons ws (suc i) 0 (omega arith), drop-cons ws (suc (suc i)) 0 (omega arith), drop-cons ws (suc (suc (suc i))) 0 (omega arith))
      (λ j. line_is f t j ∷ lines_by from to (drop (past j) ws))

  pub lines_end : length ws - i < line_words → lines_by from to (drop i ws) ≡ []
  lines_end h = lines_none from to (drop i ws) (simp length-drop h)

-- the other way round
pub lines_flip : (from to : ℕ) (ws : List ℕ) → lines_by to from ws ≡ map flip (lines_by from to ws)
unfolding lines_by
lines_flip from to [] = refl
lines_flip from to (a ∷ []) = refl
lines_flip from to (a ∷ b ∷ []) = refl
lines_flip from to (a ∷ b ∷ c ∷ []) = refl
lines_flip from to (a ∷ b ∷ c ∷ d ∷ ws) = ap (λ (ls : List Line). line_of to from (a ∷ b ∷ c ∷ d ∷ []) ∷ ls) (lines_flip from to ws)

-- the numbers of a line have 32 bits
abbrev pub Narrow : Line → Type 0
Narrow l = (l.inside < 2 ^ 32) × (l.parent < 2 ^ 32) × (l.count < 2 ^ 32)

abbrev pub AllNarrow : List Line → Type 0
AllNarrow [] = Unit {0}
AllNarrow (l ∷ ls) = Narrow l × AllNarrow ls
