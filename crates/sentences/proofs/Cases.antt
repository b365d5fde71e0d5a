-- Lines, byte by byte, evaluated by the definitions.
use mathlib.Core.Path.{◌≡◌, refl}
use mathlib.Core.List.{[], ◌∷◌}
use Rattle.game.specs.declared.Side.TheVariants.{Home, Away}
use Rattle.game.specs.declared.Positioning.TheVariants.{Illegal, IllegalUnlessKicker, InAvoidanceRegion}
use Rattle.conditions.specs.declared.Condition.TheVariants.{InCircle, InOwnPenaltyArea, InAreaOfBall}
use Rattle.sentences.specs.Sentences.{side_word, verdict_words, condition_words, number_word, line_of}

-- "Home 4 illegal: own penalty area"
own_area : line_of Home 4 Illegal InOwnPenaltyArea ≡ 72 ∷ 111 ∷ 109 ∷ 101 ∷ 32 ∷ 52 ∷ 32 ∷ 105 ∷ 108 ∷ 108 ∷ 101 ∷ 103 ∷ 97 ∷ 108 ∷ 58 ∷ 32 ∷ 111 ∷ 119 ∷ 110 ∷ 32 ∷ 112 ∷ 101 ∷ 110 ∷ 97 ∷ 108 ∷ 116 ∷ 121 ∷ 32 ∷ 97 ∷ 114 ∷ 101 ∷ 97 ∷ []
unfolding line_of side_word number_word verdict_words condition_words
own_area = refl

-- "Home 20 illegal unless kicker: only the kicker may be in the centre circle"
kicker : line_of Home 20 IllegalUnlessKicker InCircle ≡ 72 ∷ 111 ∷ 109 ∷ 101 ∷ 32 ∷ 50 ∷ 48 ∷ 32 ∷ 105 ∷ 108 ∷ 108 ∷ 101 ∷ 103 ∷ 97 ∷ 108 ∷ 32 ∷ 117 ∷ 110 ∷ 108 ∷ 101 ∷ 115 ∷ 115 ∷ 32 ∷ 107 ∷ 105 ∷ 99 ∷ 107 ∷ 101 ∷ 114 ∷ 58 ∷ 32 ∷ 111 ∷ 110 ∷ 108 ∷ 121 ∷ 32 ∷ 116 ∷ 104 ∷ 101 ∷ 32 ∷ 107 ∷ 105 ∷ 99 ∷ 107 ∷ 101 ∷ 114 ∷ 32 ∷ 109 ∷ 97 ∷ 121 ∷ 32 ∷ 98 ∷ 101 ∷ 32 ∷ 105 ∷ 110 ∷ 32 ∷ 116 ∷ 104 ∷ 101 ∷ 32 ∷ 99 ∷ 101 ∷ 110 ∷ 116 ∷ 114 ∷ 101 ∷ 32 ∷ 99 ∷ 105 ∷ 114 ∷ 99 ∷ 108 ∷ 101 ∷ []
unfolding line_of side_word number_word verdict_words condition_words
kicker = refl

-- "Away 11 in avoidance region: own penalty area with the ball in it"
avoidance : line_of Away 11 InAvoidanceRegion InAreaOfBall ≡ 65 ∷ 119 ∷ 97 ∷ 121 ∷ 32 ∷ 49 ∷ 49 ∷ 32 ∷ 105 ∷ 110 ∷ 32 ∷ 97 ∷ 118 ∷ 111 ∷ 105 ∷ 100 ∷ 97 ∷ 110 ∷ 99 ∷ 101 ∷ 32 ∷ 114 ∷ 101 ∷ 103 ∷ 105 ∷ 111 ∷ 110 ∷ 58 ∷ 32 ∷ 111 ∷ 119 ∷ 110 ∷ 32 ∷ 112 ∷ 101 ∷ 110 ∷ 97 ∷ 108 ∷ 116 ∷ 121 ∷ 32 ∷ 97 ∷ 114 ∷ 101 ∷ 97 ∷ 32 ∷ 119 ∷ 105 ∷ 116 ∷ 104 ∷ 32 ∷ 116 ∷ 104 ∷ 101 ∷ 32 ∷ 98 ∷ 97 ∷ 108 ∷ 108 ∷ 32 ∷ 105 ∷ 110 ∷ 32 ∷ 105 ∷ 116 ∷ []
unfolding line_of side_word number_word verdict_words condition_words
avoidance = refl

-- "10"
ten : number_word 10 ≡ 49 ∷ 48 ∷ []
unfolding number_word
ten = refl

-- "99"
ninety_nine : number_word 99 ≡ 57 ∷ 57 ∷ []
unfolding number_word
ninety_nine = refl

-- "4"
past_a_hundred : number_word 104 ≡ 52 ∷ []
unfolding number_word
past_a_hundred = refl

-- "55"
most : number_word 255 ≡ 53 ∷ 53 ∷ []
unfolding number_word
most = refl
