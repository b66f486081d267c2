-- How the search ended is handed on.
use Rattle.vss_stages.proofs.StageLaws.{hands_value, hands_refusal, stops_by}
use Rattle.vss_jobs.specs.Readings.{size_stop, searching}
use Rattle.vss_jobs.specs.Settings.{setting_of}
use Rattle.vss_answers.specs.Answers.{question_of, SearchEnds, found_answer, IsRightAnswer}
use Rattle.vss_answers.proofs.searching.found.Goals as goal

pub returns-in-Ok : goal.returns-in-Ok
returns-in-Ok g c =
    hands_value (SearchEnds (setting_of c.args.scene) (question_of c.args.scene.inst c.args.search) c.args.budget) (found_answer (setting_of c.args.scene)) size_stop c.in-Ok.outcome
    (record { is_instance = c.search_end.ensures.instance; ends_so = c.in-Ok.ensures.ends })

pub returns : goal.returns
returns g c =
    rw c.stop_of_size.ensures
    (stops_by (IsRightAnswer (searching (setting_of c.args.scene) c.args.search c.args.budget)) (size_stop c.in-Err.why)
    (hands_refusal (SearchEnds (setting_of c.args.scene) (question_of c.args.scene.inst c.args.search) c.args.budget) (found_answer (setting_of c.args.scene)) size_stop c.in-Err.why
    (record { is_instance = c.search_end.ensures.instance; ends_so = c.in-Err.ensures.ends })))
