pub mod SpentJobs
