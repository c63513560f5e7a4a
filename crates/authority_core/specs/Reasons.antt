-- What an authority refuses, in words.
use Rattle.std.specs.Prelude.{◌++◌, codes}
use Rattle.std.specs.Fmt.{decimal}
use Rattle.byte_formats.specs.Types.{Text}
use Rattle.issuance_log.specs.Reasons.{log_fault_text}
use Rattle.authority_core.specs.declared.issuing.error.IssueError.{IssueError}
use Rattle.authority_core.specs.declared.issuing.error.IssueError.TheVariants as issue_error
use Rattle.authority_core.specs.declared.requests.error.Field.{Field}
use Rattle.authority_core.specs.declared.requests.error.Field.TheVariants as request_field
use Rattle.authority_core.specs.declared.requests.error.RequestError.{RequestError}
use Rattle.authority_core.specs.declared.requests.error.RequestError.TheVariants as request_error
use Rattle.authority_core.specs.declared.requests.error.RequestListError.{RequestListError}
use Rattle.authority_core.specs.declared.requests.error.RequestListError.TheVariants as request_list
use Rattle.authority_core.specs.declared.writing.error.SeveralError.{SeveralError}
use Rattle.authority_core.specs.declared.writing.error.SeveralError.TheVariants as several
use Rattle.authority_core.specs.declared.writing.error.WriteError.{WriteError}
use Rattle.authority_core.specs.declared.writing.error.WriteError.TheVariants as write_error

-- Why a request is not issued.
abbrev pub issue_fault_text : IssueError → Text
issue_fault_text (issue_error.Log why) = log_fault_text why

-- A field of a request file.
abbrev pub field_text : Field → Text
field_text request_field.NotBefore = codes "NotBefore"
field_text request_field.NotAfter = codes "NotAfter"
field_text request_field.Dns = codes "Dns"
field_text request_field.CommonName = codes "CommonName"
field_text request_field.PublicKey = codes "PublicKey"

-- Why a file is no request.
abbrev pub request_fault_text : RequestError → Text
request_fault_text request_error.NotToml = codes "NotToml"
request_fault_text request_error.UnknownKey = codes "UnknownKey"
request_fault_text (request_error.Missing field) = codes "Missing " ++ field_text field
request_fault_text (request_error.BadValue field) = codes "BadValue " ++ field_text field
request_fault_text request_error.DatesReversed = codes "DatesReversed"
request_fault_text request_error.NoNames = codes "NoNames"
request_fault_text request_error.Memory = codes "Memory"

-- Why a file is no list of requests.
abbrev pub request_list_fault_text : RequestListError → Text
request_list_fault_text request_list.NotToml = codes "NotToml"
request_list_fault_text request_list.UnknownKey = codes "UnknownKey"
request_list_fault_text request_list.Missing = codes "Missing " ++ codes "Requests"
request_list_fault_text request_list.BadValue = codes "BadValue " ++ codes "Requests"
request_list_fault_text (request_list.OfRequest why number) =
    request_fault_text why ++ codes " " ++ decimal number
request_list_fault_text request_list.Memory = codes "Memory"

-- Why no certificate is written.
abbrev pub write_fault_text : WriteError → Text
write_fault_text write_error.NoSuchEntry = codes "NoSuchEntry"
write_fault_text write_error.NullEntry = codes "NullEntry"
write_fault_text write_error.BadSubtree = codes "BadSubtree"
write_fault_text write_error.Outside = codes "Outside"
write_fault_text (write_error.Beyond size) = codes "Beyond " ++ decimal size
write_fault_text write_error.NotCovered = codes "NotCovered"
write_fault_text write_error.TooManySignatures = codes "TooManySignatures"
write_fault_text write_error.JournalFailed = codes "Failed"
write_fault_text write_error.TilesFailed = codes "Failed"
write_fault_text write_error.Memory = codes "Memory"

-- Why no certificates of several entries are written.
abbrev pub several_fault_text : SeveralError → Text
several_fault_text several.NothingNew = codes "NothingNew"
several_fault_text (several.OfEntry why index) =
    write_fault_text why ++ codes " " ++ decimal index
several_fault_text several.JournalFailed = codes "Failed"
several_fault_text several.TilesFailed = codes "Failed"
several_fault_text several.Memory = codes "Memory"
