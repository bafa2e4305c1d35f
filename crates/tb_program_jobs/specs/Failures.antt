-- Why no engine is called, by why what it needs can't be had.
use Rattle.tb_assembly_labels.specs.declared.labels.LabelsError.{LabelsError}
use Rattle.tb_assembly_labels.specs.declared.labels.LabelsError.TheVariants as labels
use Rattle.tb_engine_streams.specs.declared.key_files.KeyFileError.{KeyFileError}
use Rattle.tb_engine_streams.specs.declared.key_files.KeyFileError.TheVariants as key_file
use Rattle.tb_engine_streams.specs.declared.keys.KeyError.{KeyError}
use Rattle.tb_engine_streams.specs.declared.keys.KeyError.TheVariants as keys
use Rattle.tb_engine_streams.specs.declared.outcome.Outcome.TheVariants.{Ended, Refused, ReadFault, WriteFault, NoMemory}
use Rattle.tb_engine_streams.specs.declared.stream.InputError.{InputError}
use Rattle.tb_engine_streams.specs.declared.stream.InputError.TheVariants as input
use Rattle.tb_engines.specs.Outcomes.{Outcome}
use Rattle.tb_program_jobs.specs.declared.failure.Failure.{Failure}
use Rattle.tb_program_jobs.specs.declared.failure.Failure.TheVariants as failure
use Rattle.tb_program_jobs.specs.declared.jobs.JobError.{JobError}
use Rattle.tb_program_jobs.specs.declared.jobs.JobError.TheVariants as job

-- there is no job: the words are none, no clock can be read, or memory is short
abbrev pub failure_of : JobError → Failure
failure_of (job.Words text) = failure.Words text
failure_of job.NoClock = failure.NoClock
failure_of job.NoMemory = failure.NoMemory

-- there is no key list
abbrev pub of_keys : KeyError → Failure
of_keys keys.BadKeys = failure.BadKeys
of_keys keys.NoMemory = failure.NoMemory

-- there is no key file
abbrev pub of_key_file : KeyFileError → Failure
of_key_file key_file.BadKeys = failure.BadKeys
of_key_file key_file.Fault = failure.ReadFault
of_key_file key_file.NoMemory = failure.NoMemory

-- an input can't be had
abbrev pub of_input : InputError → Failure
of_input input.Fault = failure.ReadFault
of_input input.NoMemory = failure.NoMemory

-- there are no labels
abbrev pub of_labels : LabelsError → Failure
of_labels (labels.Line line) = failure.BadLabels line
of_labels labels.NoMemory = failure.NoMemory

-- a file is not opened
abbrev pub of_unopened : Outcome → Failure
of_unopened (Ended end) = failure.ReadFault
of_unopened (Refused e) = failure.ReadFault
of_unopened ReadFault = failure.ReadFault
of_unopened WriteFault = failure.ReadFault
of_unopened NoMemory = failure.NoMemory
