-- What is relayed, and by how many senders.
use Rattle.std.specs.Prelude.{◌<◌, ◌≤◌, length}
use Rattle.fapp_model.specs.declared.limits.TheConstants.{MAX_NUMBER}
use Rattle.cert_lines.specs.WellFormed.{IsWellFormed}
use Rattle.cert_relay.specs.declared.message.Message.{Message}
use Rattle.cert_relay.specs.declared.rule.Job.{Job}
use Rattle.cert_relay.specs.declared.task.Task.{Task}

-- the job that a message tells
abbrev pub told_job : Message → Job
told_job x =
    record { instance = x.instance.value; answer = x.answer.value; senders = x.senders.value }

-- the job that is worked at
abbrev pub job_of : Task → Job
job_of task =
    record { instance = task.instance.now; answer = task.answer.now; senders = task.senders }

-- a well-formed answer whose lines can be counted, and 1 to 8 senders
pub record IsRelayJob (job : Job) : Type 0 where
  pub answer : IsWellFormed job.instance job.answer
  pub few_lines : length job.answer.lines ≤ MAX_NUMBER
  pub some_senders : 0 < job.senders
  pub few_senders : job.senders ≤ 8
