pub mod AbsentGroups
pub mod BranchLists
pub mod FlaggedFields
pub mod LeastSamples
pub mod Flags
pub mod Forms
pub mod GroupRuns
mod Origins
pub mod PresentFields
pub mod ReadParts
pub mod RowFields
mod Closed
mod LawFlags
pub mod ListFlags
pub mod MappedParts
pub mod SampleGetters
pub mod SampleLaws
pub mod SampleTable
pub mod SampleIdLength
pub mod SampleIds
mod WorkedSamples
mod WorkedLaws
mod WorkedSampleIds
