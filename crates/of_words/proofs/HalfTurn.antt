-- The theorems of the half turn and of the mirror image, at a situation whose floats fit because they are words. Assumes nothing.
use Rattle.decision.proofs.Changed.{mirror_image}
use Rattle.decision.proofs.HalfTurn.{half_turn}
use Rattle.words.specs.Words.{situation_of}
use Rattle.of_words.specs.HalfTurn.{WordsHalfTurnClaim, WordsMirrorImageClaim}
use Rattle.of_words.proofs.Fit.{words_fit}

pub words_half_turn : WordsHalfTurnClaim
words_half_turn ws xs ys e = half_turn (situation_of ws) xs ys (words_fit ws) e

pub words_mirror_image : WordsMirrorImageClaim
words_mirror_image b ws xs ys e = mirror_image b (situation_of ws) xs ys (words_fit ws) e
