-- How the check ended is handed on.
use Rattle.vss_stages.proofs.StageLaws.{hands_value, hands_refusal, stops_by}
use Rattle.vss_jobs.specs.Readings.{size_stop, checking}
use Rattle.vss_jobs.specs.Settings.{setting_of}
use Rattle.vss_answers.specs.Answers.{CheckEnds, checked_answer, IsRightAnswer}
use Rattle.vss_answers.proofs.checking.checked.Goals as goal

pub returns-in-Ok : goal.returns-in-Ok
returns-in-Ok c =
    rw c.answer_of.ensures
    (hands_value (CheckEnds (setting_of c.args.scene.now) c.args.refutation.now) (checked_answer c.args.refutation.now c.args.line) size_stop c.in-Ok.verdict
    (record { is_instance = c.parts-parts.ensures.rules; ends_so = c.in-Ok.ensures }))

pub returns-in-Err : goal.returns-in-Err
returns-in-Err c =
    rw c.stop_of_size.ensures
    (stops_by (IsRightAnswer (checking (setting_of c.args.scene.now) c.args.refutation.now c.args.line)) (size_stop c.in-Err.why)
    (hands_refusal (CheckEnds (setting_of c.args.scene.now) c.args.refutation.now) (checked_answer c.args.refutation.now c.args.line) size_stop c.in-Err.why
    (record { is_instance = c.parts-parts.ensures.rules; ends_so = c.in-Err.ensures })))
