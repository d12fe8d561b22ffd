-- Why a file cannot be read.
use Rattle.std.specs.declared.io.ErrorKind.{ErrorKind}
use Rattle.std.specs.declared.io.ErrorKind.TheVariants.{NotFound, IsADirectory}
use Rattle.reader.specs.declared.failure.Reason.{Reason}
use Rattle.reader.specs.declared.failure.Reason.TheVariants.{NotThere, Folder, Other}

-- The reason that an error's kind tells.
abbrev pub reason_of : ErrorKind → Reason
reason_of NotFound = NotThere
reason_of IsADirectory = Folder
reason_of _ = Other
