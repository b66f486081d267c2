-- The laws of answers.
use Rattle.std.specs.Prelude.{◌≡◌, Result, Ok}
use Rattle.vss_stages.specs.Stages.{IsSettled}
use Rattle.vss_stages.specs.declared.stop.Stop.{Stop}
use Rattle.vss_jobs.specs.Readings.{Job}
use Rattle.vss_jobs.specs.declared.refusal.Refusal.{Refusal}
use Rattle.vss_answers.specs.Answers.{IsRightAnswer}
use Rattle.vss_answers.specs.Truth.{IsTrueAnswer}
use Rattle.vss_answers.specs.declared.answer.Answer.{Answer}
use Rattle.vss_answers.specs.declared.answer.Answer.TheVariants.{Found, Tried}

-- the two answers are the same, or both tell how a search ended
abbrev pub AreToldAlike : Result Answer (Stop Refusal) → Result Answer (Stop Refusal) → Type 0
AreToldAlike (Ok (Found o labels)) (Ok (Found u names)) = Unit {0}
AreToldAlike (Ok (Tried o inst)) (Ok (Tried u other)) = Unit {0}
AreToldAlike one other = one ≡ other

-- but for want of memory, any two right answers to a job are alike
abbrev pub AnswersAreOne : Type 0
AnswersAreOne = (job : Job) (r s : Result Answer (Stop Refusal)) → IsSettled r → IsSettled s → IsRightAnswer job r → IsRightAnswer job s → AreToldAlike r s

-- a right answer is true
abbrev pub AnswersAreTrue : Type 0
AnswersAreTrue = (job : Job) (r : Result Answer (Stop Refusal)) → IsRightAnswer job r → IsTrueAnswer job r
