-- What is reported of a fault, and the status that the program ends with.
use Rattle.std.specs.Prelude.{ℕ, List, [], ◌++◌, codes, decimal}
use Rattle.rv_asm.specs.FaultName.{fault_name}
use Rattle.rv_asm.specs.declared.fault.AsmError.{AsmError}
use Rattle.rv_describe.specs.Fault.{place_of}
use Rattle.rv_describe.specs.FaultName.{arrivals_fault_text, description_fault_name}
use Rattle.rv_isa.specs.Key.{text_at}
use Rattle.rv_describe.specs.declared.{arrivals_error.ArrivalsError.ArrivalsError}
use Rattle.rv_describe.specs.declared.{description_error.DescriptionError.DescriptionError}
use Rattle.rv_describe.specs.declared.description_error.DescriptionError.TheVariants as described
use Rattle.rv_job.specs.declared.{errors.SimError.SimError, input.InputError.InputError}
use Rattle.rv_job.specs.declared.errors.SimError.TheVariants.{TooLong, TooManyDescriptions, Description}
use Rattle.rv_job.specs.declared.errors.SimError.TheVariants.{Described, Arrivals, Assembly, ImageDoesNotFit}
use Rattle.rv_job.specs.declared.errors.SimError.TheVariants.{DoesNotFit, Memory, WriteFailed}
use Rattle.rv_job.specs.declared.input.InputError.TheVariants as unread

-- what stands between the name of a description's fault and the key that it names
unfoldable pub gap : DescriptionError → List ℕ
gap described.NotToml = []
gap described.UnknownKey = []
gap described.Memory = []
gap named = codes " "

-- the line of a description's fault, with the key that it names
unfoldable pub description_line : DescriptionError → List ℕ
description_line error =
    codes "error: description: "
    ++ (description_fault_name error ++ (gap error ++ (text_at (place_of error) ++ codes "\n")))

-- the line of the fault of one of several descriptions, with its number and the key that it names
unfoldable pub described_line : ℕ → DescriptionError → List ℕ
described_line number error =
    codes "error: description " ++ (decimal number ++ (codes ": "
    ++ (description_fault_name error ++ (gap error ++ (text_at (place_of error) ++ codes "\n")))))

-- the line of a fault of arrivals, with the entry that it names
unfoldable pub arrivals_line : ArrivalsError → List ℕ
arrivals_line error = codes "error: arrivals: " ++ (arrivals_fault_text error ++ codes "\n")

-- the line of an image that does not fit one of several descriptions, with its number
unfoldable pub unfit_line : ℕ → List ℕ
unfit_line number = codes "error: image does not fit description " ++ (decimal number ++ codes "\n")

-- the line of the assembly's first fault
unfoldable pub assembly_line : AsmError → List ℕ
assembly_line error =
    codes "error: assembly line " ++ (decimal error.line ++ (codes ": " ++ (fault_name error.fault ++ codes "\n")))

-- what failed, and a space where the number of a description stands after it
unfoldable pub what_failed : SimError → List ℕ
what_failed TooLong = codes "job too long"
what_failed TooManyDescriptions = codes "too many descriptions"
what_failed (Description error) = codes "description"
what_failed (Described number error) = codes "description "
what_failed (Arrivals error) = codes "arrivals"
what_failed (Assembly error) = codes "assembly"
what_failed (ImageDoesNotFit bytes ram) = codes "image does not fit"
what_failed (DoesNotFit number) = codes "image does not fit description "
what_failed Memory = codes "memory"
what_failed WriteFailed = codes "output"

-- the number of the one of several descriptions that an error names
unfoldable pub number_text : SimError → List ℕ
number_text (Described number error) = decimal number
number_text (DoesNotFit number) = decimal number
number_text _ = []

-- the text of an error, without the fault that it holds
abbrev pub error_text : SimError → List ℕ
error_text error = what_failed error ++ number_text error

-- the line that reports a fault
unfoldable pub fault_line : SimError → List ℕ
fault_line (Description error) = description_line error
fault_line (Described number error) = described_line number error
fault_line (Arrivals error) = arrivals_line error
fault_line (Assembly error) = assembly_line error
fault_line (DoesNotFit number) = unfit_line number
fault_line error = codes "error: " ++ (what_failed error ++ codes "\n")

-- the exit status of a fault: 1 for a job that is refused, 4 where output failed, 5 when out of memory
unfoldable pub fault_status : SimError → ℕ
fault_status Memory = 5
fault_status WriteFailed = 4
fault_status refused = 1

-- why the input could not be read
unfoldable pub input_fault_text : InputError → List ℕ
input_fault_text unread.Failed = codes "input"
input_fault_text unread.Memory = what_failed Memory

-- the line that says why the input could not be read
unfoldable pub input_fault_line : InputError → List ℕ
input_fault_line unread.Failed = codes "error: " ++ (input_fault_text unread.Failed ++ codes "\n")
input_fault_line unread.Memory = fault_line Memory

-- the exit status where the input could not be read: 4 where a read failed, 5 when out of memory
unfoldable pub input_fault_status : InputError → ℕ
input_fault_status unread.Failed = 4
input_fault_status unread.Memory = fault_status Memory
